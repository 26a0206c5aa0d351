-- Building ends where the reading ends, and makes as many nodes as it counts.
use Rattle.std.proofs.Common.{◌≡◌, ℕ, zero, suc, ◌+◌, ◌-◌, ◌≤◌, Bool, true, false, ◌&&◌, eqb, ltb, leb, List, [], ◌∷◌, length, refl, ◌∙◌, subst, arith, length-append, length-set}
use Rattle.std.proofs.lemmas.Bool.{cond_both}
use Rattle.reading.specs.declared.answer.Reading.{Reading}
use Rattle.reading.specs.declared.node.Node.{Node}
use Rattle.reading.specs.Tree.{Tree, body}
use Rattle.reading.specs.Tree.Tree.{empty, text, range, rule, sequence, choice, repeat, ahead, absent, node, link, fold, tag}
use Rattle.reading.specs.Reading.{Progress, Outcome, Answer, Work, cap, byte_at, looked, left, made, start, fits, look, spell, after, back_to, onward, turns, taken, take, work, close, read}
use Rattle.reading.specs.Reading.Outcome.{deep, hit, miss}
use Rattle.reading.specs.Reading.Answer.{too_deep, done}
use Rattle.reading.specs.Building.{Draft, Build, none, node_at, alter, adopt, under, before, with_child, ending_at, tagged, move_to, begin, finish, aside, back, name, choose, moved_built, again_built, turns_built, build, grow}
use Rattle.reading.specs.TableLaws.{Followed}
use Rattle.reading.proofs.Alike.{Alike, work_alike}

-- Tables keep their length.

pub alter_length : (n : ℕ) (f : Node → Node) (xs : List Node) → length (alter n f xs) ≡ length xs
alter_length n f xs = length-set xs n (f (node_at xs n))

-- what the three steps of `adopt` keep, it keeps
pub adopt_has : (P : List Node → Type 0) (m n : ℕ) → ((ys : List Node) → P ys → P (alter n (under m) ys))
    → ((i : ℕ) (ys : List Node) → P ys → P (alter i (before n) ys)) → ((ys : List Node) → P ys → P (alter m (with_child n) ys))
    → (xs : List Node) → P xs → P (adopt m n xs)
adopt_has P m n U B C xs h =
    let all = C _ (B (node_at xs m).last _ (U xs h)) in
    cond_both (eqb m none) xs _ P (λ e. h) (λ e. cond_both (eqb n none) xs _ P (λ e. h) (λ e. all))

pub adopt_length : (m n : ℕ) (xs : List Node) → length (adopt m n xs) ≡ length xs
adopt_length m n xs =
    adopt_has (λ (ys : List Node). length ys ≡ length xs) m n (λ ys e. alter_length n (under m) ys ∙ e) (λ i ys e. alter_length i (before n) ys ∙ e)
    (λ ys e. alter_length m (with_child n) ys ∙ e) xs refl

pub begin_length : (child : ℕ) (h : Draft) → length (begin child h).table ≡ suc (length h.table)
begin_length child h = simp (length-append, alter_length) (omega arith)

-- a match that ended at q, with n nodes before and m after, was followed from the draft h to the draft h'
abbrev Tells : ℕ → Draft → Draft → Outcome → Type 0
Tells n h h' (hit q t) = Followed q n t.nodes h h'
Tells n h h' _ = Unit {0}

abbrev Follows : Build → Work → Type 0
Follows f k = (h : Draft) (s : Progress) → s.nodes ≤ cap → Tells s.nodes h (f h) (k h.position s)

-- no node is made
still : (q n : ℕ) (h h' : Draft) → h'.position ≡ q → length h'.table ≡ length h.table → n ≤ cap → Followed q n n h h'
still q n h h' e l c = record { came = e; more = 0; longer = omega arith; counted = omega arith }

then_tells : (n q : ℕ) (t : Progress) (h h' h'' : Draft) → Followed q n t.nodes h h' → (o : Outcome) → Tells t.nodes h' h'' o → Tells n h h'' o
then_tells n q t h h' h'' F (hit r u) T =
    record {
      came = T.came;
      more = F.more + T.more;
      longer = omega arith;
      counted = omega arith;
    }
then_tells n q t h h' h'' F _ T = tt

-- what is altered at the end, without a move or a new node
altered : (n : ℕ) (h h' h'' : Draft) (o : Outcome) → h''.position ≡ h'.position → length h''.table ≡ length h'.table → Tells n h h' o → Tells n h h'' o
altered n h h' h'' (hit q t) e l T = record { came = e ∙ T.came; more = T.more; longer = l ∙ T.longer; counted = T.counted }
altered n h h' h'' _ e l T = tt

-- the work k goes on where a match ended
go_on : (n q : ℕ) (t : Progress) (h h' : Draft) (f : Build) (k : Work) → Follows f k → Followed q n t.nodes h h' → Tells n h (f h') (k q t)
go_on n q t h h' f k F G =
    then_tells n q t h h' (f h') G (k q t)
    (subst (λ (p : ℕ). Tells t.nodes h' (f h') (k p t)) G.came (F h' t (omega arith)))

look_tells : (v : Bool) (k : Work) (p : ℕ) (s : Progress) (h h' : Draft) → Tells s.nodes h h' (k (suc p) (looked p s)) → Tells s.nodes h h' (look v k p s)
look_tells true k p s h h' T = T
look_tells false k p s h h' T = tt

spell_tells : (w cs : List ℕ) (p e : ℕ) (s : Progress) (h : Draft) → s.nodes ≤ cap → e ≡ p + length cs → Tells s.nodes h (move_to e h) (spell w cs p s)
spell_tells w [] p e s h c i = still p s.nodes h (move_to e h) (omega arith) refl c
spell_tells w (x ∷ cs) p e s h c i =
    look_tells (fits (λ y. eqb y x) (byte_at w p)) (spell w cs) p s h (move_to e h) (spell_tells w cs (suc p) e (looked p s) h c (omega arith))

sequence_tells : (n : ℕ) (h h' : Draft) (f : Build) (k : Work) → Follows f k → (o : Outcome) → Tells n h h' o → Tells n h (f h') (after k miss o)
sequence_tells n h h' f k F (hit q t) T = go_on n q t h h' f k F T
sequence_tells n h h' f k F _ T = tt

-- the decision x, made apart, is the outcome o of the reading
choice_tells : (n p : ℕ) (h : Draft) (f g : Build) (k : Work) (x o : Outcome) → Alike x o → Tells n h (f h) o
    → ((t : Progress) → Tells n h (g h) (k p (left n t))) → Tells n h (choose x f g h) (after hit (back_to p n k) o)
choice_tells n p h f g k deep deep a T U = tt
choice_tells n p h f g k (hit q s) (hit r t) a T U = T
choice_tells n p h f g k (miss s) (miss t) a T U = U t
choice_tells n p h f g k _ _ a T U = absurd a

moved_tells : (n q : ℕ) (t : Progress) (h : Draft) (f g : Build) (k : Work) (v : Bool) → Follows g k → Followed q n t.nodes h (f h)
    → Tells n h (moved_built v f g h) (onward v k q t)
moved_tells n q t h f g k true G F = go_on n q t h (f h) g k G F
moved_tells n q t h f g k false G F = F

again_tells : (n : ℕ) (h : Draft) (f g : Build) (k : Work) → Follows g k → n ≤ cap → (x o : Outcome) → Alike x o → Tells n h (f h) o
    → Tells n h (again_built x f g h) (after (λ q. onward (ltb h.position q) k q) (back_to h.position n hit) o)
again_tells n h f g k G c deep deep a T = tt
again_tells n h f g k G c (hit q s) (hit r t) a T = rw a (moved_tells n r t h f g k (ltb h.position r) G T)
again_tells n h f g k G c (miss s) (miss t) a T = still h.position n h h refl refl c
again_tells n h f g k G c _ _ a T = absurd a

turns_tell : (m : ℕ) (f : Build) (k : Work) → ((p : ℕ) (s t : Progress) → Alike (k p s) (k p t)) → Follows f k
    → Follows (turns_built m (λ p. k p (start p)) f) (turns m k)
turns_tell zero f k A F h s c = still h.position s.nodes h h refl refl c
turns_tell (suc m) f k A F h s c =
    again_tells s.nodes h f (turns_built m (λ p. k p (start p)) f) (turns m k) (turns_tell m f k A F) c
    _ _ (A h.position (start h.position) s) (F h s c)

ahead_tells : (n : ℕ) (h : Draft) (o : Outcome) → n ≤ cap → Tells n h h (after (λ q. back_to h.position n hit) miss o)
ahead_tells n h (hit q t) c = still h.position n h h refl refl c
ahead_tells n h _ c = tt

absent_tells : (n : ℕ) (h : Draft) (o : Outcome) → n ≤ cap → Tells n h h (after (λ q. miss) (back_to h.position n hit) o)
absent_tells n h (miss t) c = still h.position n h h refl refl c
absent_tells n h _ c = tt

-- a node or a fold: one node, then the part, then its end
node_tells : (child : ℕ) (h : Draft) (f : Build) (k : Work) (s : Progress) → Follows f k → s.nodes ≤ cap
    → Tells s.nodes h (finish (f (begin child h))) (k h.position (made s))
node_tells child h f k s F c =
    then_tells s.nodes h.position (made s) h (begin child h) (finish (f (begin child h)))
    (record { came = refl; more = 1; longer = begin_length child h ∙ omega arith; counted = omega arith }) (k h.position (made s))
    (altered (made s).nodes (begin child h) (f (begin child h)) (finish (f (begin child h))) (k h.position (made s)) refl
    (alter_length (f (begin child h)).current (ending_at (f (begin child h)).position) (f (begin child h)).table) (F (begin child h) (made s) (omega arith)))

-- what a rule's answer says of building along its path
abbrev ToldIf : Bool → Reading → Draft → Draft → Type 0
ToldIf true d h h' = Followed d.end 0 d.nodes h h'
ToldIf false d h h' = Unit {0}

abbrev Told : Answer → Draft → Draft → Type 0
Told too_deep h h' = Unit {0}
Told (done d) h h' = ToldIf d.matched d h h'

taken_tells : (s : Progress) (d : Reading) (v : Bool) (h h' : Draft) → ToldIf v d h h' → Tells s.nodes h h' (taken s d v)
taken_tells s d true h h' T = record { came = T.came; more = T.more; longer = T.longer; counted = omega arith }
taken_tells s d false h h' T = tt

take_tells : (s : Progress) (x : Answer) (h h' : Draft) → Told x h h' → Tells s.nodes h h' (take s x)
take_tells s too_deep h h' T = tt
take_tells s (done d) h h' T = taken_tells s d d.matched h h' T

module _ (w : List ℕ) (ask : ℕ → ℕ → Answer) (follow : ℕ → Build) (R : (r : ℕ) (h : Draft) → Told (ask r h.position) h (follow r h)) where
  build_follows : (e : Tree) → Follows (build w ask follow e) (work w ask e)
  build_follows empty h s c = still h.position s.nodes h h refl refl c
  build_follows (text cs) h s c = spell_tells w cs h.position (h.position + length cs) s h c refl
  build_follows (range low high) h s c =
      look_tells (fits (λ x. leb low x && leb x high) (byte_at w h.position)) hit h.position s h (move_to (suc h.position) h)
      (still (suc h.position) s.nodes h (move_to (suc h.position) h) refl refl c)
  build_follows (rule r) h s c = take_tells s _ h (follow r h) (R r h)
  build_follows (sequence a b) h s c =
      sequence_tells s.nodes h (build w ask follow a h) (build w ask follow b) (work w ask b) (build_follows b) _
      (build_follows a h s c)
  build_follows (choice a b) h s c =
      choice_tells s.nodes h.position h (build w ask follow a) (build w ask follow b) (work w ask b)
      _ _ (work_alike w ask a h.position (start h.position) s)
      (build_follows a h s c) (λ t. build_follows b h (left s.nodes t) c)
  build_follows (repeat a) h s c =
      turns_tell (suc (length w - h.position)) (build w ask follow a) (work w ask a) (work_alike w ask a) (build_follows a) h s c
  build_follows (ahead a) h s c = ahead_tells s.nodes h _ c
  build_follows (absent a) h s c = absent_tells s.nodes h _ c
  build_follows (node a) h s c = node_tells none h (build w ask follow a) (work w ask a) s (build_follows a) c
  build_follows (link a) h s c =
      altered s.nodes h (build w ask follow a (aside h)) (back h.current (build w ask follow a (aside h))) (work w ask a h.position s) refl
      (adopt_length h.current (build w ask follow a (aside h)).current (build w ask follow a (aside h)).table) (put_aside (work w ask a h.position s) (build_follows a (aside h) s c))
    where
      put_aside : (o : Outcome) → Tells s.nodes (aside h) (build w ask follow a (aside h)) o → Tells s.nodes h (build w ask follow a (aside h)) o
      put_aside (hit q t) T = record { came = T.came; more = T.more; longer = T.longer; counted = T.counted }
      put_aside _ T = tt
  build_follows (fold a) h s c = node_tells h.current h (build w ask follow a) (work w ask a) s (build_follows a) c
  build_follows (tag n) h s c = still h.position s.nodes h (name n h) refl (alter_length h.current (tagged n) h.table) c

close_tells : (p : ℕ) (h h' : Draft) (o : Outcome) → Tells 0 h h' o → Told (close p o) h h'
close_tells p h h' (hit q t) T = record { came = T.came; more = T.more; longer = T.longer; counted = T.counted }
close_tells p h h' _ T = tt

grow_told : (g : List Tree) (w : List ℕ) (k r : ℕ) (h : Draft) → Told (read g w k r h.position) h (grow g w k r h)
grow_told g w zero r h = tt
grow_told g w (suc k) r h =
    close_tells h.position h (build w (read g w k) (grow g w k) (body g r) h) _
    (build_follows w (read g w k) (grow g w k) (grow_told g w k) (body g r) h (start h.position) (omega arith))

pub followed : (g : List Tree) (w : List ℕ) (k r : ℕ) (h : Draft) (d : Reading) → read g w k r h.position ≡ done d → d.matched ≡ true
    → Followed d.end 0 d.nodes h (grow g w k r h)
followed g w k r h d e m = rw (e, m) at (grow_told g w k r h)
