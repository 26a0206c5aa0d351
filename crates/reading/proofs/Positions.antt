-- A reading stays inside the input, and its height, reach and nodes stay in their limits.
use Rattle.std.proofs.Common.{◌≡◌, ℕ, zero, suc, ◌≤◌, max, Bool, true, false, List, [], length, arith}
use Rattle.reading.specs.Tree.{Tree, body}
use Rattle.reading.specs.Reading.{Progress, Outcome, Answer, Work, cap, start, looked, left, made, onward, turns, taken, take, work, close, read}
use Rattle.reading.specs.Reading.Outcome.{deep, hit, miss}
use Rattle.reading.specs.Reading.Answer.{too_deep, done}
use Rattle.reading.specs.ReadingLaws.{Placed}
use Rattle.reading.proofs.Induction.{Kept, onward_has, turns_has, work_has}

-- The height only rises.

abbrev pub Rises : ℕ → Progress → Outcome → Type 0
Rises p s deep = Unit {0}
Rises p s (hit q t) = s.height ≤ t.height
Rises p s (miss t) = s.height ≤ t.height

rises_on : (p q : ℕ) (s t : Progress) (o : Outcome) → s.height ≤ t.height → Rises q t o → Rises p s o
rises_on p q s t deep l h = tt
rises_on p q s t _ l h = omega arith

rises_kept : (w : List ℕ) → Kept w Rises
rises_kept w = record {
  stays = λ p s. omega arith;
  found = λ p s o l h. rises_on p (suc p) s (looked p s) o (omega arith) h;
  unfound = λ p s. omega arith;
  goes_on = λ p q s t o h k. rises_on p q s t o h k;
  goes_back = λ p s t o h k. rises_on p p s (left s.nodes t) o h k;
  looks_ahead = λ p q s t h. h;
  is_there = λ p q s t h. h;
  makes = λ p s o h. rises_on p p s (made s) o (omega arith) h;
}

take_rises : (p : ℕ) (s : Progress) (x : Answer) → Rises p s (take s x)
take_rises p s too_deep = tt
take_rises p s (done d) = by d.matched
  where
    by : (v : Bool) → Rises p s (taken s d v)
    by true = omega arith
    by false = omega arith

pub work_rises : (w : List ℕ) (ask : ℕ → ℕ → Answer) (t : Tree) (p : ℕ) (s : Progress) → Rises p s (work w ask t p s)
work_rises w ask t p s = work_has w Rises (rises_kept w) ask (λ r q u. take_rises q u (ask r q)) t p s

pub turns_rises : (m : ℕ) (f : Work) → ((p : ℕ) (s : Progress) → Rises p s (f p s)) → (p : ℕ) (s : Progress) → Rises p s (turns m f p s)
turns_rises m f = turns_has [] Rises (rises_kept []) m f

pub onward_rises : (v : Bool) (f : Work) → ((p : ℕ) (s : Progress) → Rises p s (f p s)) → (p : ℕ) (s : Progress) → Rises p s (onward v f p s)
onward_rises v f = onward_has [] Rises (rises_kept []) v f

-- Positions, in an input of n bytes.

-- from the progress s to the progress t
pub record Ranged (n : ℕ) (s t : Progress) : Type 0 where
  pub grows : s.reach ≤ t.reach
  pub most : t.reach ≤ max s.reach (suc n)

pub record Moved (n p : ℕ) (s : Progress) (q : ℕ) (t : Progress) : Type 0 where
  pub forward : p ≤ q
  pub ends : q ≤ n
  pub seen : q ≤ max p t.reach
  pub counts : s.nodes ≤ cap → t.nodes ≤ cap
  pub ranged : Ranged n s t

abbrev pub Stayed : ℕ → ℕ → Progress → Outcome → Type 0
Stayed n p s deep = Unit {0}
Stayed n p s (hit q t) = Moved n p s q t
Stayed n p s (miss t) = Ranged n s t

abbrev pub Stays : ℕ → ℕ → Progress → Outcome → Type 0
Stays n p s o = p ≤ n → Stayed n p s o

-- what is so from a later position and a greater progress is so from an earlier one
stays_on : (n p q : ℕ) (s t : Progress) (o : Outcome) → (p ≤ n → Moved n p s q t) → Stays n q t o → Stays n p s o
stays_on n p q s t deep m h l = tt
stays_on n p q s t (hit r u) m h l =
    let a : Moved n p s q t = m l in
    let b : Moved n q t r u = h a.ends in
    record {
      forward = omega arith;
      ends = omega arith;
      seen = omega arith;
      counts = λ c. b.counts (a.counts c);
      ranged = record { grows = omega arith; most = omega arith };
    }
stays_on n p q s t (miss u) m h l =
    let a : Moved n p s q t = m l in
    let b : Ranged n t u = h a.ends in
    record { grows = omega arith; most = omega arith }

stays_kept : (w : List ℕ) → Kept w (Stays (length w))
stays_kept w = record {
  stays = λ p s l. still p s s l (omega arith) (omega arith) (λ c. c);
  found = λ p s o l h.
      stays_on (length w) p (suc p) s (looked p s) o
      (λ m. record {
        forward = omega arith;
        ends = l;
        seen = omega arith;
        counts = λ c. c;
        ranged = record { grows = omega arith; most = omega arith };
      }) h;
  unfound = λ p s l. record { grows = omega arith; most = omega arith };
  goes_on = λ p q s t o h k. stays_on (length w) p q s t o h k;
  goes_back = λ p s t o h k.
      stays_on (length w) p p s (left s.nodes t) o
      (λ l. let a : Ranged (length w) s t = h l in still p s (left s.nodes t) l (omega arith) (omega arith) (λ c. c)) k;
  looks_ahead = λ p q s t h l.
      let a : Moved (length w) p s q t = h l in
      still p s (left s.nodes t) l (omega arith) (omega arith) (λ c. c);
  is_there = λ p q s t h l. (h l).ranged;
  makes = λ p s o h.
      stays_on (length w) p p s (made s) o (λ l. still p s (made s) l (omega arith) (omega arith) (λ c. omega arith)) h;
}
  where
    still : (p : ℕ) (s t : Progress) → p ≤ length w → s.reach ≤ t.reach → t.reach ≤ max s.reach (suc (length w))
        → (s.nodes ≤ cap → t.nodes ≤ cap) → Moved (length w) p s p t
    still p s t l g m c =
        record { forward = omega arith; ends = l; seen = omega arith; counts = c; ranged = record { grows = g; most = m } }

abbrev pub PlacedIf : ℕ → ℕ → Answer → Type 0
PlacedIf n p too_deep = Unit {0}
PlacedIf n p (done d) = Placed n p d

take_stays : (n p : ℕ) (s : Progress) (x : Answer) → PlacedIf n p x → Stayed n p s (take s x)
take_stays n p s too_deep h = tt
take_stays n p s (done d) h = by d.matched
  where
    by : (v : Bool) → Stayed n p s (taken s d v)
    by true =
        record {
          forward = h.forward;
          ends = h.ends;
          seen = omega arith;
          counts = λ c. omega arith;
          ranged = record { grows = omega arith; most = omega arith };
        }
    by false = record { grows = omega arith; most = omega arith }

close_stays : (n p : ℕ) (o : Outcome) → p ≤ n → Stayed n p (start p) o → PlacedIf n p (close p o)
close_stays n p deep l h = tt
close_stays n p (hit q t) l h =
    record { forward = h.forward; ends = h.ends; seen = omega arith; reaches = omega arith; counts = h.counts (omega arith) }
close_stays n p (miss t) l h =
    record { forward = omega arith; ends = l; seen = omega arith; reaches = omega arith; counts = omega arith }

pub work_stays : (w : List ℕ) (ask : ℕ → ℕ → Answer) → ((r p : ℕ) → p ≤ length w → PlacedIf (length w) p (ask r p))
    → (t : Tree) (p : ℕ) (s : Progress) → p ≤ length w → Stayed (length w) p s (work w ask t p s)
work_stays w ask A t p s l =
    work_has w (Stays (length w)) (stays_kept w) ask (λ r q u m. take_stays (length w) q u (ask r q) (A r q m)) t p s l

pub read_stays : (g : List Tree) (w : List ℕ) (k r p : ℕ) → p ≤ length w → PlacedIf (length w) p (read g w k r p)
read_stays g w zero r p l = tt
read_stays g w (suc k) r p l =
    close_stays (length w) p _ l (work_stays w (read g w k) (read_stays g w k) (body g r) p (start p) l)

-- an expression of the rules' bodies g, and where its match ends
pub part_stays : (g : List Tree) (w : List ℕ) (k : ℕ) (t : Tree) (p : ℕ) (s : Progress) → p ≤ length w
    → Stayed (length w) p s (work w (read g w k) t p s)
part_stays g w k t p s l = work_stays w (read g w k) (read_stays g w k) t p s l

pub part_ends : (g : List Tree) (w : List ℕ) (k : ℕ) (t : Tree) (p : ℕ) (s : Progress) (q : ℕ) (u : Progress) → p ≤ length w
    → work w (read g w k) t p s ≡ hit q u → q ≤ length w
part_ends g w k t p s q u l e = let S : Stayed (length w) p s (hit q u) = rw e at (part_stays g w k t p s l) in S.ends
