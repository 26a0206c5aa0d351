-- The relation allows one answer, and plain reading gives it.
use Rattle.std.proofs.Common.{◌≡◌, ℕ, zero, suc, ◌≤◌, Bool, true, false, List, [], ◌∷◌, length, sym, refl, ap, ◌∙◌, inl, inr, arith}
use Rattle.reading.specs.declared.answer.Reading.{Reading}
use Rattle.reading.specs.Tree.{Tree, body, bodies}
use Rattle.reading.specs.Reading.{Outcome, Answer, depth, start, close, read}
use Rattle.reading.specs.Reading.Outcome.{hit, miss}
use Rattle.reading.specs.Reading.Answer.{too_deep, done}
use Rattle.reading.specs.Semantics.{Came, Comes, Reads, Allowed, closed, reading_of}
use Rattle.reading.specs.Semantics.Came.{matched, failed}
use Rattle.reading.specs.ReadingLaws.{AnswersAllowed, ReadAllowed}
use Rattle.reading.proofs.Budget.{budget}
use Rattle.reading.proofs.Moves.{Moving, moving}
use Rattle.reading.proofs.Sound.{AnswerExplains, read_explains}
use Rattle.reading.proofs.Complete.{Agrees, height_of, closed_height, complete}

-- a reading by its fields
read_as : (d : Reading) (v : Bool) → d.matched ≡ v → d ≡ record { matched = v; end = d.end; height = d.height; reach = d.reach; nodes = d.nodes }
read_as d v e = ap (λ (b : Bool). record { matched = b; end = d.end; height = d.height; reach = d.reach; nodes = d.nodes }) e

close_is : (p : ℕ) (x : Came) (o : Outcome) → Agrees (start p) x o → close p o ≡ done (reading_of p (closed p x))
close_is p (matched q h l n) (hit r u) E = grind arith
close_is p (failed h l) (miss u) E = grind arith
close_is p _ _ E = absurd E

height_of_lem : (p : ℕ) (x : Came) → (reading_of p x).height ≡ height_of x
height_of_lem p (matched q h l n) = refl
height_of_lem p (failed h l) = refl

module _ (g : List Tree) (w : List ℕ) (M : (r : ℕ) → Moving g (body g r)) where
  -- what the relation derives for a rule is what is read
  derived : (k : ℕ) {r p : ℕ} {y : Came} → Comes g w (Tree.rule r) p y → height_of y ≤ k → p ≤ length w → read g w k r p ≡ done (reading_of p y)
  derived zero (Comes.rule {r = r} {p = p} {x = x} D) h l = absurd (omega (arith, closed_height p x))
  derived (suc k) (Comes.rule {r = r} {p = p} {x = x} D) h l =
      close_is p x _ (complete g w M D (M r) k (start p) (omega (arith, closed_height p x)) l (omega arith))

  only : (k r p : ℕ) (d : Reading) → p ≤ length w → Reads g w r p d → d.height ≤ k → read g w k r p ≡ done d
  only k r p d l R h =
      let e : d.height ≡ height_of R.came = ap (λ (f : Reading). f.height) R.is ∙ height_of_lem p R.came in
      derived k R.comes (omega arith) l ∙ ap done (sym R.is)

  -- what is read is derived
  reads : (r p : ℕ) (d : Reading) (v : Bool) → d.matched ≡ v → AnswerExplains g w r p d v → Reads g w r p d
  reads r p d true e D = record { came = matched d.end d.height d.reach d.nodes; comes = D; is = read_as d true e }
  reads r p d false e D = record { came = failed d.height d.reach; comes = D.0; is = at_start D.1 D.2 }
    where
      at_start : d.end ≡ p → d.nodes ≡ 0 → d ≡ reading_of p (failed d.height d.reach)
      at_start i j = read_as d false e ∙ cc

  module _ (k r p : ℕ) (l : p ≤ length w) where
    told : (x : Answer) → read g w k r p ≡ x → Allowed g w k r p x
    told too_deep e = λ d R h. let f : read g w k r p ≡ done d = only k r p d l R h in cc
    told (done d) e = (
      reads r p d d.matched refl (rw e at (read_explains g w M k r p l)),
      (budget g w k r p d e).most,
    )

    allowed : (x : Answer) → Allowed g w k r p x → x ≡ read g w k r p
    allowed (done d) a = sym (only k r p d l a.0 a.1)
    allowed too_deep a = by (read g w k r p) refl
      where
        by : (y : Answer) → read g w k r p ≡ y → too_deep ≡ y
        by too_deep e = refl
        by (done d) e = let b : Allowed g w k r p (done d) = told (done d) e in absurd (a d b.0 b.1)

pub read_allowed : ReadAllowed
read_allowed c F w r p l = told (bodies c) w (moving c F) depth r p l (read (bodies c) w depth r p) refl

pub one_answer : AnswersAllowed 1
one_answer c F w r p l = record {
  all = read (bodies c) w depth r p ∷ [];
  count = refl;
  apart = ((λ i. i), tt);
  each = λ x i. elim i [ inl e ↦ rw e (read_allowed c F w r p l) | inr j ↦ absurd j ];
  only = λ x a. inl (allowed (bodies c) w (moving c F) depth r p l x a);
}
