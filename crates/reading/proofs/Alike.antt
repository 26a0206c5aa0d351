-- Whether an expression matches, and where, does not turn on the progress so far.
use Rattle.std.proofs.Common.{◌≡◌, ℕ, zero, suc, ◌-◌, Bool, true, false, ◌&&◌, eqb, ltb, leb, List, [], ◌∷◌, length, refl}
use Rattle.reading.specs.declared.answer.Reading.{Reading}
use Rattle.reading.specs.Tree.{Tree}
use Rattle.reading.specs.Tree.Tree.{text, range, rule, sequence, choice, repeat, ahead, absent, node, link, fold}
use Rattle.reading.specs.Reading.{Progress, Outcome, Answer, Work, byte_at, looked, left, made, fits, look, spell, after, back_to, onward, turns, taken, take, work}
use Rattle.reading.specs.Reading.Outcome.{deep, hit, miss}
use Rattle.reading.specs.Reading.Answer.{too_deep, done}

abbrev pub Alike : Outcome → Outcome → Type 0
Alike deep deep = Unit {0}
Alike (hit q s) (hit r t) = q ≡ r
Alike (miss s) (miss t) = Unit {0}
Alike _ _ = ⊥

abbrev Even : Work → Work → Type 0
Even f g = (p : ℕ) (s t : Progress) → Alike (f p s) (g p t)

after_alike : (f g : Work) (m n : Progress → Outcome) → Even f g → ((s t : Progress) → Alike (m s) (n t))
    → (o x : Outcome) → Alike o x → Alike (after f m o) (after g n x)
after_alike f g m n F N deep deep h = tt
after_alike f g m n F N (hit q s) (hit r t) h = rw (← h) (F q s t)
after_alike f g m n F N (miss s) (miss t) h = N s t
after_alike f g m n F N _ _ h = absurd h

look_alike : (v : Bool) (f : Work) → Even f f → Even (look v f) (look v f)
look_alike true f F p s t = F (suc p) (looked p s) (looked p t)
look_alike false f F p s t = tt

spell_alike : (w cs : List ℕ) → Even (spell w cs) (spell w cs)
spell_alike w [] p s t = refl
spell_alike w (c ∷ cs) p s t = look_alike (fits (λ x. eqb x c) (byte_at w p)) (spell w cs) (spell_alike w cs) p s t

onward_alike : (v : Bool) (f : Work) → Even f f → Even (onward v f) (onward v f)
onward_alike true f F p s t = F p s t
onward_alike false f F p s t = refl

turns_alike : (m : ℕ) (f : Work) → Even f f → Even (turns m f) (turns m f)
turns_alike zero f F p s t = refl
turns_alike (suc m) f F p s t =
    after_alike (λ q. onward (ltb p q) (turns m f) q) (λ q. onward (ltb p q) (turns m f) q) (back_to p s.nodes hit) (back_to p t.nodes hit)
    (λ q. onward_alike (ltb p q) (turns m f) (turns_alike m f F) q) (λ u v. refl) _ _ (F p s t)

taken_alike : (s t : Progress) (d : Reading) (v : Bool) → Alike (taken s d v) (taken t d v)
taken_alike s t d true = refl
taken_alike s t d false = tt

take_alike : (s t : Progress) (x : Answer) → Alike (take s x) (take t x)
take_alike s t too_deep = tt
take_alike s t (done d) = taken_alike s t d d.matched

pub work_alike : (w : List ℕ) (ask : ℕ → ℕ → Answer) (e : Tree) → Even (work w ask e) (work w ask e)
work_alike w ask (text cs) p s t = spell_alike w cs p s t
work_alike w ask (range low high) p s t = look_alike (fits (λ x. leb low x && leb x high) (byte_at w p)) hit (λ q u v. refl) p s t
work_alike w ask (rule r) p s t = take_alike s t (ask r p)
work_alike w ask (sequence a b) p s t =
    after_alike (work w ask b) (work w ask b) miss miss (work_alike w ask b) (λ u v. tt) _ _ (work_alike w ask a p s t)
work_alike w ask (choice a b) p s t =
    after_alike hit hit (back_to p s.nodes (work w ask b)) (back_to p t.nodes (work w ask b)) (λ q u v. refl)
    (λ u v. work_alike w ask b p (left s.nodes u) (left t.nodes v)) _ _ (work_alike w ask a p s t)
work_alike w ask (repeat a) p s t = turns_alike (suc (length w - p)) (work w ask a) (work_alike w ask a) p s t
work_alike w ask (ahead a) p s t =
    after_alike (λ q. back_to p s.nodes hit) (λ q. back_to p t.nodes hit) miss miss (λ q u v. refl) (λ u v. tt)
    _ _ (work_alike w ask a p s t)
work_alike w ask (absent a) p s t =
    after_alike (λ q. miss) (λ q. miss) (back_to p s.nodes hit) (back_to p t.nodes hit) (λ q u v. tt) (λ u v. refl)
    _ _ (work_alike w ask a p s t)
work_alike w ask (node a) p s t = work_alike w ask a p (made s) (made t)
work_alike w ask (link a) p s t = work_alike w ask a p s t
work_alike w ask (fold a) p s t = work_alike w ask a p (made s) (made t)
work_alike w ask _ p s t = refl
