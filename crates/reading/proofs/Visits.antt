-- A pair that is visited was reached by a rule that the expression asks, inside the input.
use Rattle.std.proofs.Common.{◌≡◌, ℕ, zero, suc, ◌-◌, ◌≤◌, Bool, true, false, ltb, ◌⊎◌, List, [], ◌∷◌, ◌++◌, length, refl, inl, inr}
use Rattle.reading.specs.Tree.{Tree, Asks}
use Rattle.reading.specs.Tree.Tree.{rule, sequence, choice, repeat, ahead, absent, node, link, fold}
use Rattle.reading.specs.Reading.{Progress, Outcome, Answer, Work, left, made, after, back_to, onward, turns, take, work}
use Rattle.reading.specs.Reading.Outcome.{deep, hit, miss}
use Rattle.reading.specs.Reading.Answer.{too_deep, done}
use Rattle.reading.specs.Lists.{In}
use Rattle.reading.specs.Reached.{Pair, Visits, visited_after, visited_back_at, visited_onward, visited_in_turns, visited}
use Rattle.reading.proofs.Positions.{Stayed, PlacedIf, work_stays}

pub in_left : (x : Pair) (xs ys : List Pair) → In x xs → In x (xs ++ ys)
in_left x [] ys h = absurd h
in_left x (y ∷ xs) ys (inl e) = inl e
in_left x (y ∷ xs) ys (inr h) = inr (in_left x xs ys h)

pub in_right : (x : Pair) (xs ys : List Pair) → In x ys → In x (xs ++ ys)
in_right x [] ys h = h
in_right x (y ∷ xs) ys h = inr (in_right x xs ys h)

pub in_either : (x : Pair) (xs ys : List Pair) → In x (xs ++ ys) → In x xs ⊎ In x ys
in_either x [] ys h = inr h
in_either x (y ∷ xs) ys (inl e) = inl (inl e)
in_either x (y ∷ xs) ys (inr h) = elim (in_either x xs ys h) [ inl i ↦ inl (inr i) | inr i ↦ inr i ]

-- an outcome that is not too deep, and an answer that is not
abbrev pub Completes : Outcome → Type 0
Completes deep = ⊥
Completes _ = Unit {0}

abbrev pub Whole : Answer → Type 0
Whole too_deep = ⊥
Whole (done d) = Unit {0}

part_completes : (f : Work) (n : Progress → Outcome) (o : Outcome) → Completes (after f n o) → Completes o
part_completes f n deep h = h
part_completes f n _ h = tt

abbrev Ends : ℕ → Outcome → Type 0
Ends n (hit q t) = q ≤ n
Ends n _ = Unit {0}

ends : (n p : ℕ) (s : Progress) (o : Outcome) → Stayed n p s o → Ends n o
ends n p s (hit q t) h = h.ends
ends n p s _ h = tt

module _ (w : List ℕ) (ask : ℕ → ℕ → Answer) (c : ℕ → ℕ → List Pair) where
  -- the pair x was reached by one of the rules R, on the way to the outcome o
  pub record From (R : ℕ → Type 0) (o : Outcome) (x : Pair) : Type 0 where
    pub by : ℕ
    pub position : ℕ
    pub asked : R by
    pub inside : position ≤ length w
    pub reaches : In x (c by position)
    pub whole : Completes o → Whole (ask by position)

  from : {R R' : ℕ → Type 0} {o o' : Outcome} {x : Pair} → From R o x → ((r : ℕ) → R r → R' r) → (Completes o' → Completes o) → From R' o' x
  from F i j = record {
    by = F.by;
    position = F.position;
    asked = i F.by F.asked;
    inside = F.inside;
    reaches = F.reaches;
    whole = λ h. F.whole (j h);
  }

  abbrev pub Comes : (ℕ → Type 0) → Work → Visits → Type 0
  Comes R f v = (p : ℕ) (s : Progress) → p ≤ length w → (x : Pair) → In x (v p s) → From R (f p s) x

  module _ (R : ℕ → Type 0) where
    after_from : (f : Work) (n : Progress → Outcome) (v : Visits) (m : Progress → List Pair) → Comes R f v
        → ((t : Progress) (x : Pair) → In x (m t) → From R (n t) x) → (o : Outcome) → Ends (length w) o
        → (x : Pair) → In x (visited_after v m o) → From R (after f n o) x
    after_from f n v m F N deep e x i = absurd i
    after_from f n v m F N (hit q t) e x i = F q t e x i
    after_from f n v m F N (miss t) e x i = N t x i

    -- what a part visits, and what is visited after it
    both_from : (f : Work) (n : Progress → Outcome) (v : Visits) (m : Progress → List Pair) → Comes R f v
        → ((t : Progress) (x : Pair) → In x (m t) → From R (n t) x) → (o : Outcome) → Ends (length w) o
        → (xs : List Pair) → ((x : Pair) → In x xs → From R o x)
        → (x : Pair) → In x (xs ++ visited_after v m o) → From R (after f n o) x
    both_from f n v m F N o e xs X x i =
        elim (in_either x xs (visited_after v m o) i) [
          | inl j ↦ from (X x j) (λ r a. a) (part_completes f n o)
          | inr j ↦ after_from f n v m F N o e x j
        ]

    onward_from : (b : Bool) (f : Work) (v : Visits) → Comes R f v → Comes R (onward b f) (visited_onward b v)
    onward_from true f v F p s l x i = F p s l x i
    onward_from false f v F p s l x i = absurd i

    turns_from : (m : ℕ) (f : Work) (v : Visits) → ((p : ℕ) (s : Progress) → p ≤ length w → Ends (length w) (f p s))
        → Comes R f v → Comes R (turns m f) (visited_in_turns m f v)
    turns_from zero f v E F p s l x i = absurd i
    turns_from (suc m) f v E F p s l x i =
        both_from (λ q. onward (ltb p q) (turns m f) q) (back_to p s.nodes hit) (λ q. visited_onward (ltb p q) (visited_in_turns m f v) q) (λ t. [])
        (λ q. onward_from (ltb p q) (turns m f) (visited_in_turns m f v) (turns_from m f v E F) q) (λ t y j. absurd j)
        (f p s) (E p s l) (v p s) (F p s l) x i

  module _ (A : (r p : ℕ) → p ≤ length w → PlacedIf (length w) p (ask r p)) where
    work_ends : (t : Tree) (p : ℕ) (s : Progress) → p ≤ length w → Ends (length w) (work w ask t p s)
    work_ends t p s l = ends (length w) p s (work w ask t p s) (work_stays w ask A t p s l)

    rule_from : (r p : ℕ) (s : Progress) → p ≤ length w → (x : Pair) → In x (c r p) → From (λ q. q ≡ r) (take s (ask r p)) x
    rule_from r p s l x i = record { by = r; position = p; asked = refl; inside = l; reaches = i; whole = answered (ask r p) }
      where
        answered : (y : Answer) → Completes (take s y) → Whole y
        answered too_deep h = h
        answered (done d) h = tt

    pub visited_from : (t : Tree) → Comes (λ r. Asks r t) (work w ask t) (visited w ask c t)
    visited_from (rule r) p s l x i = rule_from r p s l x i
    visited_from (sequence a b) p s l x i =
        both_from (λ r. Asks r (sequence a b)) (work w ask b) miss (visited w ask c b) (λ t. [])
        (λ q t m y j. from (visited_from b q t m y j) (λ r h. inr h) (λ h. h))
        (λ t y j. absurd j) (work w ask a p s) (work_ends a p s l) (visited w ask c a p s)
        (λ y j. from (visited_from a p s l y j) (λ r h. inl h) (λ h. h)) x i
    visited_from (choice a b) p s l x i =
        both_from (λ r. Asks r (choice a b)) hit (back_to p s.nodes (work w ask b)) (λ q t. []) (visited_back_at p s.nodes (visited w ask c b))
        (λ q t m y j. absurd j)
        (λ t y j. from (visited_from b p (left s.nodes t) l y j) (λ r h. inr h) (λ h. h))
        (work w ask a p s) (work_ends a p s l) (visited w ask c a p s)
        (λ y j. from (visited_from a p s l y j) (λ r h. inl h) (λ h. h)) x i
    visited_from (repeat a) p s l x i =
        turns_from (λ r. Asks r a) (suc (length w - p)) (work w ask a) (visited w ask c a) (work_ends a) (visited_from a) p s l x i
    visited_from (ahead a) p s l x i =
        from (visited_from a p s l x i) (λ r h. h) (part_completes (λ q. back_to p s.nodes hit) miss (work w ask a p s))
    visited_from (absent a) p s l x i =
        from (visited_from a p s l x i) (λ r h. h) (part_completes (λ q. miss) (back_to p s.nodes hit) (work w ask a p s))
    visited_from (node a) p s l x i = visited_from a p (made s) l x i
    visited_from (link a) p s l x i = visited_from a p s l x i
    visited_from (fold a) p s l x i = visited_from a p (made s) l x i
    visited_from _ p s l x i = absurd i
