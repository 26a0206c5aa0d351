-- The pairs inside a reading that completes complete too, and are less high; all pairs are of the grammar and the input.
use Rattle.std.proofs.Common.{◌≡◌, ℕ, zero, suc, ◌<◌, ◌≤◌, List, length, drop, sym, refl, ap, ◌∙◌, inl, inr, arith}
use Rattle.reading.specs.declared.answer.Reading.{Reading}
use Rattle.reading.specs.Tree.{Tree, body, Asks, Closed}
use Rattle.reading.specs.Reading.{Outcome, Answer, start, work, close, read}
use Rattle.reading.specs.Reading.Outcome.{deep}
use Rattle.reading.specs.Reading.Answer.{too_deep, done}
use Rattle.reading.specs.Lists.{In}
use Rattle.reading.specs.Reached.{Pair, reached, inside}
use Rattle.reading.specs.ReadingLaws.{Inner, Budgeted, InGrid}
use Rattle.reading.proofs.Positions.{read_stays}
use Rattle.reading.proofs.Budget.{budget}
use Rattle.reading.proofs.Visits.{Completes, Whole, From, visited_from}

-- an answer that is whole is a reading
record Told (x : Answer) : Type 0 where
  reading : Reading
  is : x ≡ done reading

told : (x : Answer) → Whole x → Told x
told too_deep h = absurd h
told (done d) h = record { reading = d; is = refl }

whole : (x : Answer) (d : Reading) → x ≡ done d → Whole x
whole x d e = rw e tt

close_whole : (p : ℕ) (o : Outcome) → Whole (close p o) → Completes o
close_whole p deep h = h
close_whole p _ h = tt

module _ (g : List Tree) (w : List ℕ) where
  -- what is whole under a budget is whole under a greater one
  whole_over : (k j r p : ℕ) → k ≤ j → Whole (read g w k r p) → Whole (read g w j r p)
  whole_over k j r p l h =
      let T : Told (read g w k r p) = told (read g w k r p) h in
      let B : Budgeted g w k r p T.reading = budget g w k r p T.reading T.is in
      whole (read g w j r p) T.reading (B.enough j (omega arith))

  -- the rule by which a pair inside was reached
  came : (k r p : ℕ) → p ≤ length w → (x : Pair) → In x (inside g w (suc k) r p)
      → From w (read g w k) (reached g w k) (λ q. Asks q (body g r)) (work w (read g w k) (body g r) p (start p)) x
  came k r p l x i = visited_from w (read g w k) (reached g w k) (read_stays g w k) (body g r) p (start p) l x i

  reached_whole : (k r p : ℕ) → p ≤ length w → Whole (read g w k r p) → (x : Pair) → In x (reached g w k r p) → Whole (read g w k x.0 x.1)
  reached_whole zero r p l h x i = absurd h
  reached_whole (suc k) r p l h x (inl e) = rw e h
  reached_whole (suc k) r p l h x (inr i) =
      let F = came k r p l x i in
      whole_over k (suc k) x.0 x.1 (omega arith)
      (reached_whole k F.by F.position F.inside (F.whole (close_whole p _ h)) x F.reaches)

  inside_whole : (k r p : ℕ) → p ≤ length w → Whole (read g w (suc k) r p) → (x : Pair) → In x (inside g w (suc k) r p) → Whole (read g w k x.0 x.1)
  inside_whole k r p l h x i =
      let F = came k r p l x i in
      reached_whole k F.by F.position F.inside (F.whole (close_whole p _ h)) x F.reaches

  -- the pairs of a rule but itself
  inside_drop : (k r p : ℕ) → inside g w k r p ≡ drop 1 (reached g w k r p)
  inside_drop zero r p = refl
  inside_drop (suc k) r p = refl

  inside_same : (j k r p : ℕ) → reached g w j r p ≡ reached g w k r p → inside g w j r p ≡ inside g w k r p
  inside_same j k r p e = inside_drop j r p ∙ ap (drop 1) e ∙ sym (inside_drop k r p)

  pub inner : (k r p : ℕ) (d : Reading) → p ≤ length w → read g w k r p ≡ done d → (x : Pair) → In x (inside g w k r p) → Inner g w k d x
  inner k r p d l e x i = at d.height refl
    where
      B : Budgeted g w k r p d
      B = budget g w k r p d e

      at : (h : ℕ) → d.height ≡ h → Inner g w k d x
      at zero m = absurd (whole too_deep d (B.enough 0 (omega arith)))
      at (suc h) m =
          let e' : read g w (suc h) r p ≡ done d = B.enough (suc h) (omega arith) in
          let i' : In x (inside g w (suc h) r p) = rw (inside_same (suc h) k r p (B.all_pairs (suc h) (omega arith))) i in
          let T : Told (read g w h x.0 x.1) =
          told (read g w h x.0 x.1) (inside_whole h r p l (whole (read g w (suc h) r p) d e') x i') in
          let C : Budgeted g w h x.0 x.1 T.reading = budget g w h x.0 x.1 T.reading T.is in
          record { reading = T.reading; is = C.enough k (omega (arith, B.most)); lower = omega arith }

  pub not_inside : (k r p : ℕ) (d : Reading) → p ≤ length w → read g w k r p ≡ done d → In (r, p) (inside g w k r p) → ⊥
  not_inside k r p d l e i =
      let I : Inner g w k d (r, p) = inner k r p d l e (r, p) i in
      let h : I.reading.height ≡ d.height = cc in
      omega arith

  pub in_grid : Closed g → (k r p : ℕ) → r < length g → p ≤ length w → (x : Pair) → In x (reached g w k r p) → InGrid (length g) (length w) x
  in_grid C zero r p a l x i = absurd i
  in_grid C (suc k) r p a l x (inl e) = rw e (a, l)
  in_grid C (suc k) r p a l x (inr i) =
      let F = came k r p l x i in
      in_grid C k F.by F.position (C r F.by F.asked) F.inside x F.reaches
