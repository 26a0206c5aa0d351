-- What building leaves of the nodes made before. A fold's node keeps its first child, and a link's becomes the last child.
use Rattle.std.proofs.Common.{◌≡◌, ℕ, zero, suc, ◌<◌, ◌≤◌, eqb, List, [], ◌∷◌, ◌++◌, length, sym, refl, ap, ◌∙◌, inl, inr, arith, length-append, get_or-set_same, get_or-set_other}
use Rattle.std.proofs.lemmas.List.{get_or_push}
use lib.ListN.{get_or-append}
use Rattle.std.proofs.lemmas.Bool.{ne_eqb, eq-eqb, cond-true, cond-false, cases_eq}
use Rattle.reading.specs.declared.node.Node.{Node}
use Rattle.reading.specs.Tree.{Tree}
use Rattle.reading.specs.Reading.{read}
use Rattle.reading.specs.Building.{Draft, Build, none, fresh, tagged, ending_at, under, before, with_child, node_at, alter, adopt, move_to, begin, finish, aside, back, name, build, grow}
use Rattle.reading.specs.TableLaws.{Folded, Linked, Sound}
use Rattle.reading.proofs.Building.{EachStep, follow_has}
use Rattle.reading.proofs.Built.{alter_length, adopt_has, begin_length}
use Rattle.reading.proofs.SoundTables.{build_sound}

-- Nodes: any keeps where it begins, and a first child that it has; one below the floor keeps all but its next.

record Grew (x y : Node) : Type 0 where
  from : y.from ≡ x.from
  first : (x.first ≡ none → ⊥) → y.first ≡ x.first

record Same (x y : Node) : Type 0 where
  tag : y.tag ≡ x.tag
  from : y.from ≡ x.from
  to : y.to ≡ x.to
  up : y.up ≡ x.up
  first : y.first ≡ x.first
  last : y.last ≡ x.last

same_grew : {x y : Node} → Same x y → Grew x y
same_grew S = record { from = S.from; first = λ h. S.first }

grew_on : {x y z : Node} → Grew x y → Grew y z → Grew x z
grew_on G H = record { from = H.from ∙ G.from; first = λ h. H.first (λ e. h (sym (G.first h) ∙ e)) ∙ G.first h }

same_on : {x y z : Node} → Same x y → Same y z → Same x z
same_on S T = record {
  tag = T.tag ∙ S.tag;
  from = T.from ∙ S.from;
  to = T.to ∙ S.to;
  up = T.up ∙ S.up;
  first = T.first ∙ S.first;
  last = T.last ∙ S.last;
}

self_grew : (x : Node) → Grew x x
self_grew x = record { from = refl; first = λ h. refl }

self_same : (x : Node) → Same x x
self_same x = record { tag = refl; from = refl; to = refl; up = refl; first = refl; last = refl }

next_same : (n : ℕ) (x : Node) → Same x (before n x)
next_same n x = record { tag = refl; from = refl; to = refl; up = refl; first = refl; last = refl }

at_altered : (n : ℕ) (f : Node → Node) (xs : List Node) → n < length xs → node_at (alter n f xs) n ≡ f (node_at xs n)
at_altered n f xs l = get_or-set_same xs n (f (node_at xs n)) (fresh 0 none) l

at_other : (n i : ℕ) (f : Node → Node) (xs : List Node) → (i ≡ n → ⊥) → node_at (alter n f xs) i ≡ node_at xs i
at_other n i f xs h = get_or-set_other xs n i (f (node_at xs n)) (fresh 0 none) h

-- each node stays or is the one that is altered
at_any : (P : Node → Node → Type 0) → ((x : Node) → P x x) → (n : ℕ) (f : Node → Node) → ((x : Node) → P x (f x))
    → (xs : List Node) (i : ℕ) → i < length xs → P (node_at xs i) (node_at (alter n f xs) i)
at_any P self n f F xs i l =
    elim (cases_eq i n) [
      | inl e ↦ rw (e, at_altered n f xs (omega arith)) (F (node_at xs n))
      | inr e ↦ rw (at_other n i f xs e) (self (node_at xs i))
    ]

-- a table that grew out of another, above a floor of m nodes
record Over (m : ℕ) (xs ys : List Node) : Type 0 where
  longer : length xs ≤ length ys
  grew : (i : ℕ) → i < length xs → Grew (node_at xs i) (node_at ys i)
  same : (i : ℕ) → i < length xs → i < m → Same (node_at xs i) (node_at ys i)

over_self : (m : ℕ) (xs : List Node) → Over m xs xs
over_self m xs = record { longer = omega arith; grew = λ i l. self_grew (node_at xs i); same = λ i l k. self_same (node_at xs i) }

over_on : {m : ℕ} {xs ys zs : List Node} → Over m xs ys → Over m ys zs → Over m xs zs
over_on A B = record {
  longer = omega arith;
  grew = λ i l. grew_on (A.grew i l) (B.grew i (omega arith));
  same = λ i l k. same_on (A.same i l k) (B.same i (omega arith) k);
}

over_append : (m : ℕ) (xs ys zs : List Node) → Over m xs ys → Over m xs (ys ++ zs)
over_append m xs ys zs A = record {
  longer = omega (arith, length-append ys zs);
  grew = λ i l. rw (get_or-append ys zs (fresh 0 none) i (omega arith)) (A.grew i l);
  same = λ i l k. rw (get_or-append ys zs (fresh 0 none) i (omega arith)) (A.same i l k);
}

-- a node at or above the floor is altered
over_high : (m n : ℕ) (f : Node → Node) → ((x : Node) → Grew x (f x)) → (xs : List Node) → m ≤ n → Over m xs (alter n f xs)
over_high m n f F xs l = record {
  longer = omega (arith, alter_length n f xs);
  grew = at_any Grew self_grew n f F xs;
  same = λ i j k. rw (at_other n i f xs (λ e. omega arith)) (self_same (node_at xs i));
}

-- any node is altered, but only its next
over_any : (m n : ℕ) (f : Node → Node) → ((x : Node) → Same x (f x)) → (xs : List Node) → Over m xs (alter n f xs)
over_any m n f F xs = record {
  longer = omega (arith, alter_length n f xs);
  grew = at_any Grew self_grew n f (λ x. same_grew (F x)) xs;
  same = λ i l k. at_any Same self_same n f F xs i l;
}

-- Drafts above a floor: the current node stays at or above it.

record Above (m : ℕ) (h h' : Draft) : Type 0 where
  over : Over m h.table h'.table
  current : m ≤ h'.current

abbrev Lifts : Draft → Draft → Type 0
Lifts h h' = (m : ℕ) → m ≤ none → m ≤ h.current → m ≤ length h.table → Above m h h'

rests : (m : ℕ) (h h' : Draft) → m ≤ h'.current → h'.table ≡ h.table → Above m h h'
rests m h h' c e = record { over = rw e (over_self m h.table); current = c }

above_on : {m : ℕ} {h h' h'' : Draft} → Above m h h' → Above m h' h'' → Above m h h''
above_on A B = record { over = over_on A.over B.over; current = B.current }

under_grew : (n : ℕ) (x : Node) → Grew x (under n x)
under_grew n x = record { from = refl; first = λ h. refl }

finish_lifts : (h : Draft) → Lifts h (finish h)
finish_lifts h m n c l =
    record { over = over_high m h.current (ending_at h.position) (λ x. record { from = refl; first = λ e. refl }) h.table c; current = c }

name_lifts : (t : ℕ) (h : Draft) → Lifts h (name t h)
name_lifts t h m n c l =
    record { over = over_high m h.current (tagged t) (λ x. record { from = refl; first = λ e. refl }) h.table c; current = c }

begin_lifts : (m child : ℕ) (h : Draft) → m ≤ child → m ≤ length h.table → Above m h (begin child h)
begin_lifts m child h c l = record {
  over = over_append m h.table (alter child (under (length h.table)) h.table) (fresh h.position child ∷ [])
      (over_high m child (under (length h.table)) (under_grew (length h.table)) h.table c);
  current = l;
}

child_grew : (n : ℕ) (x : Node) → Grew x (with_child n x)
child_grew n x = record { from = refl; first = λ h. cond-false (eqb x.first none) n x.first (ne_eqb x.first none h) }

adopt_over : (m i j : ℕ) (xs : List Node) → m ≤ i → m ≤ j → Over m xs (adopt i j xs)
adopt_over m i j xs k l =
    adopt_has (Over m xs) i j (λ ys A. over_on A (over_high m j (under i) (under_grew i) ys l))
    (λ n ys A. over_on A (over_any m n (before j) (next_same j) ys))
    (λ ys A. over_on A (over_high m i (with_child j) (child_grew j) ys k)) xs (over_self m xs)

back_lifts : (m old : ℕ) (h : Draft) → m ≤ old → m ≤ h.current → Above m h (back old h)
back_lifts m old h k c = record { over = adopt_over m old h.current h.table k c; current = k }

-- Building.

node_lifts : (f : Build) → ((h : Draft) → Lifts h (f h)) → (m child : ℕ) (h : Draft) → m ≤ none → m ≤ child → m ≤ length h.table
    → Above m h (finish (f (begin child h)))
node_lifts f F m child h n c l =
    let A : Above m h (begin child h) = begin_lifts m child h c l in
    let B : Above m (begin child h) (f (begin child h)) = F (begin child h) m n A.current (omega (arith, A.over.longer)) in
    above_on A (above_on B (finish_lifts (f (begin child h)) m n B.current (omega (arith, A.over.longer, B.over.longer))))

link_lifts : (f : Build) → ((h : Draft) → Lifts h (f h)) → (h : Draft) → Lifts h (back h.current (f (aside h)))
link_lifts f F h m n c l =
    let A : Above m (aside h) (f (aside h)) = F (aside h) m n n l in
    above_on (record { over = A.over; current = A.current }) (back_lifts m h.current (f (aside h)) c A.current)

lifts_kept : EachStep Lifts
lifts_kept = record {
  stays = λ h m n c l. rests m h h c refl;
  moves = λ q h e m n c l. rests m h (move_to q h) c refl;
  names = name_lifts;
  goes_on = λ h h' h'' F G m n c l. let A : Above m h h' = F m n c l in above_on A (G m n A.current (omega (arith, A.over.longer)));
  makes = λ f F h m n c l. node_lifts f F m none h n n l;
  folds = λ f F h m n c l. node_lifts f F m h.current h n c l;
  links = link_lifts;
}

-- The laws of folds, links and tags, for expressions of the rules' bodies g.

module _ (g : List Tree) (w : List ℕ) (k : ℕ) (a : Tree) (h : Draft) where
  abbrev part : Build
  part = build w (read g w k) (grow g w k) a

  part_lifts : (d : Draft) → Lifts d (part d)
  part_lifts = follow_has Lifts lifts_kept g w k a

  pub fold_law : h.current < length h.table → length h.table ≤ none → Folded h (finish (part (begin h.current h)))
  fold_law c l = record {
    from = grew.from ∙ ap (λ (x : Node). x.from) new;
    first = grew.first (λ e. absurd (omega (arith, sym (ap (λ (x : Node). x.first) new) ∙ e))) ∙ ap (λ (x : Node). x.first) new;
    up = same.up ∙ ap (λ (x : Node). x.up) old;
  }
    where
      n : ℕ
      n = length h.table

      h₁ : Draft
      h₁ = begin h.current h

      h₂ : Draft
      h₂ = finish (part h₁)

      long : length h₁.table ≡ suc n
      long = begin_length h.current h

      new : node_at h₁.table n ≡ fresh h.position h.current
      new =
          get_or_push (alter h.current (under n) h.table) (fresh h.position h.current) (fresh 0 none) n
          (alter_length h.current (under n) h.table)

      old : node_at h₁.table h.current ≡ under n (node_at h.table h.current)
      old =
          get_or-append (alter h.current (under n) h.table) (fresh h.position h.current ∷ []) (fresh 0 none) h.current
          (omega (arith, alter_length h.current (under n) h.table))
          ∙ at_altered h.current (under n) h.table c

      above : Above n h₁ h₂
      above =
          let A : Above n h₁ (part h₁) = part_lifts h₁ n l (omega arith) (omega (arith, long)) in
          above_on A (finish_lifts (part h₁) n l A.current (omega (arith, long, A.over.longer)))

      grew : Grew (node_at h₁.table n) (node_at h₂.table n)
      grew = above.over.grew n (omega (arith, long))

      same : Same (node_at h₁.table h.current) (node_at h₂.table h.current)
      same = above.over.same h.current (omega (arith, long)) c

  adopt_both : (i j : ℕ) (xs : List Node) → (i ≡ none → ⊥) → (j ≡ none → ⊥)
      → adopt i j xs ≡ alter i (with_child j) (alter (node_at xs i).last (before j) (alter j (under i) xs))
  adopt_both i j xs u v = rw (ne_eqb i none u, ne_eqb j none v)

  pub link_law : Sound h → h.current < length h.table → length h.table ≤ none → ((part (aside h)).current ≡ none → ⊥)
      → Linked h (part (aside h)).current (back h.current (part (aside h)))
  link_law S c l v = record {
    current = refl;
    last = ap (λ (xs : List Node). (node_at xs h.current).last) both ∙ ap (λ (y : Node). y.last) parent;
    first = λ e. ap (λ (xs : List Node). (node_at xs h.current).first) both ∙ ap (λ (y : Node). y.first) parent ∙ first_child e;
    up = ap (λ (xs : List Node). (node_at xs x).up) both ∙ ap (λ (y : Node). y.up) (at_other h.current x (with_child x) ys apart)
        ∙ (next x inside).up ∙ ap (λ (y : Node). y.up) (at_altered x (under h.current) t inside);
  }
    where
      h₁ : Draft
      h₁ = part (aside h)

      x : ℕ
      x = h₁.current

      -- behind the part, with the new parent, and with the next child
      t : List Node
      t = h₁.table

      zs : List Node
      zs = alter x (under h.current) t

      ys : List Node
      ys = alter (node_at t h.current).last (before x) zs

      above : Above (length h.table) (aside h) h₁
      above = part_lifts (aside h) (length h.table) l l (omega arith)

      apart : x ≡ h.current → ⊥
      apart e = omega (arith, above.current)

      inside : x < length t
      inside = elim (build_sound g w k a (aside h) (record { current = inl refl; nodes = S.nodes })).sound.current [ inl e ↦ absurd (v e) | inr i ↦ i ]

      longer : length h.table ≤ length t
      longer = above.over.longer

      next : (i : ℕ) → i < length t → Same (node_at zs i) (node_at ys i)
      next i l =
          at_any Same self_same (node_at t h.current).last (before x) (next_same x) zs i (omega (arith, alter_length x (under h.current) t))

      both : (back h.current h₁).table ≡ alter h.current (with_child x) ys
      both = adopt_both h.current x t (λ e. omega arith) v

      ys_length : length ys ≡ length t
      ys_length = alter_length (node_at t h.current).last (before x) zs ∙ alter_length x (under h.current) t

      parent : node_at (alter h.current (with_child x) ys) h.current ≡ with_child x (node_at ys h.current)
      parent = at_altered h.current (with_child x) ys (omega (arith, ys_length, longer))

      first_child : (node_at h.table h.current).first ≡ none → (with_child x (node_at ys h.current)).first ≡ x
      first_child e =
          cond-true (eqb (node_at ys h.current).first none) x (node_at ys h.current).first
          (eq-eqb (node_at ys h.current).first none
          ((next h.current (omega (arith, longer))).first
          ∙ ap (λ (y : Node). y.first) (at_other x h.current (under h.current) t (λ i. apart (sym i)))
          ∙ (above.over.same h.current c c).first ∙ e))

-- a later tag wins
pub tag_law : (n : ℕ) (s t : ℕ) (xs : List Node) → alter n (tagged t) (alter n (tagged s) xs) ≡ alter n (tagged t) xs
tag_law n s t [] = refl
tag_law zero s t (x ∷ xs) = refl
tag_law (suc n) s t (x ∷ xs) = ap {B = List Node} (λ ys. x ∷ ys) (tag_law n s t xs)
