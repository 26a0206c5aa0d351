-- In a table that is built, every node lies inside what was read, and every link is none or a node.
use Rattle.std.proofs.Common.{◌≡◌, ℕ, zero, suc, ◌≤◌, eqb, List, [], ◌∷◌, ◌++◌, length, sym, refl, subst, inl, inr, arith}
use Rattle.std.specs.List.{All}
use Rattle.std.proofs.lemmas.Bool.{cond_both}
use Rattle.std.proofs.lemmas.List.Elements.{All-append, All-cons, All-head, All-nil, All-tail, All-weaker}
use Rattle.reading.specs.declared.node.Node.{Node}
use Rattle.reading.specs.Tree.{Tree}
use Rattle.reading.specs.Reading.{read}
use Rattle.reading.specs.Building.{Draft, Build, none, fresh, tagged, ending_at, under, before, with_child, alter, adopt, move_to, begin, finish, aside, back, name, build, grow, blank}
use Rattle.reading.specs.TableLaws.{Link, SoundNode, Sound}
use Rattle.reading.proofs.Building.{EachStep, grow_has, follow_has}
use Rattle.reading.proofs.Built.{alter_length, adopt_has, adopt_length, begin_length}

-- Links and nodes stay sound in a longer table, and at a later position.

link_more : (n m i : ℕ) → n ≤ m → Link n i → Link m i
link_more n m i l h = grind arith

node_more : (n m p q : ℕ) → n ≤ m → p ≤ q → (x : Node) → SoundNode n p x → SoundNode m q x
node_more n m p q l k x S = record {
  forward = S.forward;
  ends = omega arith;
  up = link_more n m x.up l S.up;
  first = link_more n m x.first l S.first;
  last = link_more n m x.last l S.last;
  next = link_more n m x.next l S.next;
}

all_alter : (P : Node → Type 0) (n : ℕ) (f : Node → Node) → ((x : Node) → P x → P (f x)) → (xs : List Node)
    → All P xs → All P (alter n f xs)
all_alter P n f F [] h = h
all_alter P zero f F (x ∷ xs) h = All-cons P (f x) xs (F x (All-head P x xs h)) (All-tail P x xs h)
all_alter P (suc n) f F (x ∷ xs) h = All-cons P x (alter n f xs) (All-head P x xs h) (all_alter P n f F xs (All-tail P x xs h))

module _ (n p : ℕ) where
  tagged_sound : (t : ℕ) (x : Node) → SoundNode n p x → SoundNode n p (tagged t x)
  tagged_sound t x S = record { forward = S.forward; ends = S.ends; up = S.up; first = S.first; last = S.last; next = S.next }

  ended_sound : (x : Node) → SoundNode n p x → SoundNode n p (ending_at p x)
  ended_sound x S = record {
    forward = omega arith;
    ends = omega arith;
    up = S.up;
    first = S.first;
    last = S.last;
    next = S.next;
  }

  under_sound : (i : ℕ) → Link n i → (x : Node) → SoundNode n p x → SoundNode n p (under i x)
  under_sound i l x S = record { forward = S.forward; ends = S.ends; up = l; first = S.first; last = S.last; next = S.next }

  before_sound : (i : ℕ) → Link n i → (x : Node) → SoundNode n p x → SoundNode n p (before i x)
  before_sound i l x S = record { forward = S.forward; ends = S.ends; up = S.up; first = S.first; last = S.last; next = l }

  child_sound : (i : ℕ) → Link n i → (x : Node) → SoundNode n p x → SoundNode n p (with_child i x)
  child_sound i l x S = record {
    forward = S.forward;
    ends = S.ends;
    up = S.up;
    first = cond_both (eqb x.first none) i x.first (Link n) (λ e. l) (λ e. S.first);
    last = l;
    next = S.next;
  }

  fresh_sound : (i : ℕ) → Link n i → SoundNode n p (fresh p i)
  fresh_sound i l = record { forward = omega arith; ends = omega arith; up = inl refl; first = l; last = l; next = inl refl }

  adopt_sound : (i j : ℕ) → Link n i → Link n j → (xs : List Node)
      → All (SoundNode n p) xs → All (SoundNode n p) (adopt i j xs)
  adopt_sound i j l m =
      adopt_has (All (SoundNode n p)) i j (all_alter (SoundNode n p) j (under i) (under_sound i l))
      (λ k. all_alter (SoundNode n p) k (before j) (before_sound j m)) (all_alter (SoundNode n p) i (with_child j) (child_sound j m))

-- Drafts: the position goes forward, the table grows, and all stays sound.

pub record Further (h h' : Draft) : Type 0 where
  pub forward : h.position ≤ h'.position
  pub longer : length h.table ≤ length h'.table
  pub sound : Sound h'

abbrev Keeps : Build → Type 0
Keeps f = (h : Draft) → Sound h → Further h (f h)

-- the position stays, and the table keeps its length
same_further : (h : Draft) (i : ℕ) (xs : List Node) → length xs ≡ length h.table → Link (length h.table) i
    → All (SoundNode (length h.table) h.position) xs → Further h (record { position = h.position; current = i; table = xs })
same_further h i xs e l S = record {
  forward = omega arith;
  longer = omega arith;
  sound = record {
    current = link_more (length h.table) (length xs) i (omega arith) l;
    nodes = subst (λ (m : ℕ). All (SoundNode m h.position) xs) (sym e) S;
  };
}

further : {h h' h'' : Draft} → Further h h' → Further h' h'' → Further h h''
further F G = record { forward = omega arith; longer = omega arith; sound = G.sound }

move_further : (q : ℕ) (h : Draft) → h.position ≤ q → Sound h → Further h (move_to q h)
move_further q h l S = record {
  forward = l;
  longer = omega arith;
  sound = record {
    current = S.current;
    nodes = All-weaker (SoundNode (length h.table) h.position) (SoundNode (length h.table) q)
        (node_more (length h.table) (length h.table) h.position q (omega arith) l) h.table S.nodes;
  };
}

begin_further : (child : ℕ) (h : Draft) → Link (length h.table) child → Sound h → Further h (begin child h)
begin_further child h l S = record {
  forward = omega arith;
  longer = omega (arith, begin_length child h);
  sound = record {
    current = inr (omega (arith, begin_length child h));
    nodes = subst (λ (m : ℕ). All (SoundNode m h.position) (begin child h).table) (sym (begin_length child h)) nodes;
  };
}
  where
    n : ℕ
    n = length h.table

    more : All (SoundNode (suc n) h.position) h.table
    more = All-weaker (SoundNode n h.position) (SoundNode (suc n) h.position)
        (node_more n (suc n) h.position h.position (omega arith) (omega arith)) h.table S.nodes

    nodes : All (SoundNode (suc n) h.position) (alter child (under n) h.table ++ (fresh h.position child ∷ []))
    nodes = All-append (SoundNode (suc n) h.position) (alter child (under n) h.table) (fresh h.position child ∷ [])
        (all_alter (SoundNode (suc n) h.position) child (under n) (under_sound (suc n) h.position n (inr (omega arith))) h.table more)
        (All-cons (SoundNode (suc n) h.position) (fresh h.position child) []
        (fresh_sound (suc n) h.position child (link_more n (suc n) child (omega arith) l)) (All-nil (SoundNode (suc n) h.position)))

finish_further : (h : Draft) → Sound h → Further h (finish h)
finish_further h S =
    same_further h h.current (alter h.current (ending_at h.position) h.table) (alter_length h.current (ending_at h.position) h.table) S.current
    (all_alter (SoundNode (length h.table) h.position) h.current (ending_at h.position) (ended_sound (length h.table) h.position) h.table S.nodes)

name_further : (t : ℕ) (h : Draft) → Sound h → Further h (name t h)
name_further t h S =
    same_further h h.current (alter h.current (tagged t) h.table) (alter_length h.current (tagged t) h.table) S.current
    (all_alter (SoundNode (length h.table) h.position) h.current (tagged t) (tagged_sound (length h.table) h.position t) h.table S.nodes)

aside_further : (h : Draft) → Sound h → Further h (aside h)
aside_further h S = same_further h none h.table refl (inl refl) S.nodes

back_further : (old : ℕ) (h : Draft) → Link (length h.table) old → Sound h → Further h (back old h)
back_further old h l S =
    same_further h old (adopt old h.current h.table) (adopt_length old h.current h.table) l
    (adopt_sound (length h.table) h.position old h.current l S.current h.table S.nodes)

-- Building.

node_keeps : (f : Build) → Keeps f → (child : ℕ) (h : Draft) → Link (length h.table) child → Sound h → Further h (finish (f (begin child h)))
node_keeps f F child h l S =
    let A = begin_further child h l S in
    let B = F (begin child h) A.sound in
    further A (further B (finish_further (f (begin child h)) B.sound))

link_keeps : (f : Build) → Keeps f → (h : Draft) → Sound h → Further h (back h.current (f (aside h)))
link_keeps f F h S =
    let A = aside_further h S in
    let B = F (aside h) A.sound in
    further A (further B
    (back_further h.current (f (aside h)) (link_more (length h.table) (length (f (aside h)).table) h.current B.longer S.current) B.sound))

sound_kept : EachStep (λ h h'. Sound h → Further h h')
sound_kept = record {
  stays = λ h S. same_further h h.current h.table refl S.current S.nodes;
  moves = move_further;
  names = name_further;
  goes_on = λ h h' h'' F G S. further (F S) (G (F S).sound);
  makes = λ f F h S. node_keeps f F none h (inl refl) S;
  folds = λ f F h S. node_keeps f F h.current h S.current S;
  links = link_keeps;
}

pub grow_keeps : (g : List Tree) (w : List ℕ) (k r : ℕ) → Keeps (grow g w k r)
grow_keeps g w k r = grow_has (λ h h'. Sound h → Further h h') sound_kept g w k r

pub blank_sound : (p : ℕ) → Sound (blank p)
blank_sound p = record { current = inl refl; nodes = All-nil (SoundNode 0 p) }

pub build_sound : (g : List Tree) (w : List ℕ) (k : ℕ) (e : Tree) (h : Draft) → Sound h → Further h (build w (read g w k) (grow g w k) e h)
build_sound g w k e h S = follow_has (λ h h'. Sound h → Further h h') sound_kept g w k e h S
