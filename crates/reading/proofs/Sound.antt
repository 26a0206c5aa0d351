-- What plain reading comes to, the relation derives.
use Rattle.std.proofs.Common.{◌≡◌, ℕ, zero, suc, ◌+◌, ◌-◌, ◌<◌, ◌≤◌, min, max, Bool, true, false, ◌&&◌, eqb, ltb, leb, List, [], ◌∷◌, length, Some, None, Option, sym, refl, ap, ◌∙◌, arith}
use Rattle.std.proofs.lemmas.Bool.{eqb-true, eqb-false, leb-true, le-leb, lt-ltb, both_ways, and_parts, and_from}
use Rattle.reading.specs.declared.answer.Reading.{Reading}
use Rattle.reading.specs.Tree.{Tree, body}
use Rattle.reading.specs.Reading.{Progress, Outcome, Answer, Work, cap, byte_at, looked, left, made, start, fits, look, spell, between, after, back_to, onward, turns, taken, take, work, close, read}
use Rattle.reading.specs.Reading.Outcome.{deep, hit, miss}
use Rattle.reading.specs.Reading.Answer.{too_deep, done}
use Rattle.reading.specs.Semantics.{Came, Comes, behind}
use Rattle.reading.specs.Semantics.Came.{matched, failed}
use Rattle.reading.proofs.Positions.{Stayed, part_stays, part_ends}
use Rattle.reading.proofs.Moves.{Moving}

-- the progress u behind s, where a part had this height, looked so far and made so many nodes
pub record Grown (s u : Progress) (h l n : ℕ) : Type 0 where
  pub height : u.height ≡ max s.height h
  pub reach : u.reach ≡ max s.reach l
  pub nodes : u.nodes ≡ min cap (s.nodes + n)

pub stay : (s : Progress) → s.nodes ≤ cap → Grown s s 0 0 0
stay s c = record { height = omega arith; reach = omega arith; nodes = omega arith }

pub grow_on : (s u v : Progress) (h l n h' l' n' : ℕ) → Grown s u h l n → Grown u v h' l' n' → Grown s v (max h h') (max l l') (n + n')
grow_on s u v h l n h' l' n' G H = record { height = omega arith; reach = omega arith; nodes = omega arith }

-- a byte was looked at
pub look_grown : (p : ℕ) (s : Progress) → s.nodes ≤ cap → Grown s (looked p s) 0 (suc p) 0
look_grown p s c = record { height = omega arith; reach = refl; nodes = omega arith }

-- a node is counted before its part
pub made_grown : (s : Progress) → s.nodes ≤ cap → Grown s (made s) 0 0 1
made_grown s c = record { height = omega arith; reach = omega arith; nodes = omega arith }

-- back where it began
pub back_grown : (s u : Progress) (h l : ℕ) → s.nodes ≤ cap → u.height ≡ max s.height h → u.reach ≡ max s.reach l → Grown s (left s.nodes u) h l 0
back_grown s u h l c i j = record { height = i; reach = j; nodes = omega arith }

module _ (g : List Tree) (w : List ℕ) where
  record Hit (t : Tree) (p : ℕ) (s : Progress) (q : ℕ) (u : Progress) : Type 0 where
    height : ℕ
    looked : ℕ
    nodes : ℕ
    comes : Comes g w t p (matched q height looked nodes)
    grown : Grown s u height looked nodes

  record Miss (t : Tree) (p : ℕ) (s u : Progress) : Type 0 where
    height : ℕ
    looked : ℕ
    comes : Comes g w t p (failed height looked)
    is_height : u.height ≡ max s.height height
    is_reach : u.reach ≡ max s.reach looked

  -- the relation derives the outcome of t at p
  abbrev Explains : Tree → ℕ → Progress → Outcome → Type 0
  Explains t p s deep = Unit {0}
  Explains t p s (hit q u) = Hit t p s q u
  Explains t p s (miss u) = Miss t p s u

  -- a part came before, and the rest explains the whole
  then_explains : {s u : Progress} {h l n : ℕ} (t b : Tree) (p q : ℕ) → Grown s u h l n
      → ((x : Came) → Comes g w b q x → Comes g w t p (behind h l n x)) → (o : Outcome) → Explains b q u o → Explains t p s o
  then_explains t b p q G k deep E = tt
  then_explains {s = s} {u = u} {h = h} {l = l} {n = n} t b p q G k (hit r v) E = record {
    height = max h E.height;
    looked = max l E.looked;
    nodes = n + E.nodes;
    comes = k (matched r E.height E.looked E.nodes) E.comes;
    grown = grow_on s u v h l n E.height E.looked E.nodes G E.grown;
  }
  then_explains {h = h} {l = l} t b p q G k (miss v) E = record {
    height = max h E.height;
    looked = max l E.looked;
    comes = k (failed E.height E.looked) E.comes;
    is_height = omega arith;
    is_reach = omega arith;
  }

  -- no match, and the whole is a match where it began
  rests : (t : Tree) (p : ℕ) (s u : Progress) (h l : ℕ) → s.nodes ≤ cap → u.height ≡ max s.height h → u.reach ≡ max s.reach l
      → Comes g w t p (matched p h l 0) → Hit t p s p (left s.nodes u)
  rests t p s u h l c i j D = record { height = h; looked = l; nodes = 0; comes = D; grown = back_grown s u h l c i j }

  -- Leaves.

  hit_here : (t : Tree) (p : ℕ) (s : Progress) → s.nodes ≤ cap → Comes g w t p (matched p 0 0 0) → Explains t p s (hit p s)
  hit_here t p s c D = record { height = 0; looked = 0; nodes = 0; comes = D; grown = stay s c }

  miss_here : (t : Tree) (p : ℕ) (s : Progress) → Comes g w t p (failed 0 (suc p)) → Explains t p s (miss (looked p s))
  miss_here t p s D = record { height = 0; looked = suc p; comes = D; is_height = omega arith; is_reach = omega arith }

  -- the byte that fits, or that none does
  pub record Fits (test : ℕ → Bool) (p : ℕ) : Type 0 where
    pub byte : ℕ
    pub there : byte_at w p ≡ Some byte
    pub passes : test byte ≡ true

  pub fitting : (test : ℕ → Bool) (p : ℕ) → fits test (byte_at w p) ≡ true → Fits test p
  fitting test p e = by (byte_at w p) refl e
    where
      by : (o : Option ℕ) → byte_at w p ≡ o → fits test o ≡ true → Fits test p
      by None i h = cc
      by (Some x) i h = record { byte = x; there = i; passes = h }

  unfit : (test : ℕ → Bool) (p x : ℕ) → fits test (byte_at w p) ≡ false → byte_at w p ≡ Some x → test x ≡ false
  unfit test p x e i = ap (fits test) (sym i) ∙ e

  spell_explains : (cs : List ℕ) (p : ℕ) (s : Progress) → s.nodes ≤ cap → Explains (Tree.text cs) p s (spell w cs p s)
  spell_explains [] p s c = hit_here (Tree.text []) p s c Comes.text_end
  spell_explains (x ∷ cs) p s c =
      by (fits (λ y. eqb y x) (byte_at w p)) refl (spell_explains cs (suc p) (looked p s) c)
    where
      by : (v : Bool) → fits (λ y. eqb y x) (byte_at w p) ≡ v → Explains (Tree.text cs) (suc p) (looked p s) (spell w cs (suc p) (looked p s))
          → Explains (Tree.text (x ∷ cs)) p s (look v (spell w cs) p s)
      by true e E =
          let F : Fits (λ y. eqb y x) p = fitting (λ y. eqb y x) p e in
          let here : byte_at w p ≡ Some x = F.there ∙ ap Some (eqb-true F.byte x F.passes) in
          then_explains (Tree.text (x ∷ cs)) (Tree.text cs) p (suc p) (look_grown p s c) (λ y D. Comes.text_same here D) _ E
      by false e E =
          miss_here (Tree.text (x ∷ cs)) p s
          (Comes.text_other (λ i. eqb-false x x (unfit (λ y. eqb y x) p x e i) refl))

  range_explains : (low high p : ℕ) (s : Progress) → s.nodes ≤ cap → Explains (Tree.range low high) p s (between w low high p s)
  range_explains low high p s c = by (fits test (byte_at w p)) refl
    where
      test : ℕ → Bool
      test y = leb low y && leb y high

      by : (v : Bool) → fits test (byte_at w p) ≡ v → Explains (Tree.range low high) p s (look v hit p s)
      by true e =
          let F : Fits test p = fitting test p e in
          let v : (leb low F.byte ≡ true) × (leb F.byte high ≡ true) = and_parts (leb low F.byte) (leb F.byte high) F.passes in
          record {
            height = 0;
            looked = suc p;
            nodes = 0;
            comes = Comes.range_in F.there (leb-true low F.byte v.0) (leb-true F.byte high v.1);
            grown = look_grown p s c;
          }
      by false e =
          miss_here (Tree.range low high) p s
          (Comes.range_out (λ x i a b. both_ways (test x) (unfit test p x e i) (and_from (leb low x) (leb x high) (le-leb low x a) (le-leb x high b))))

  -- Rules.

  abbrev pub AnswerExplains : ℕ → ℕ → Reading → Bool → Type 0
  AnswerExplains r p d true = Comes g w (Tree.rule r) p (matched d.end d.height d.reach d.nodes)
  AnswerExplains r p d false = Comes g w (Tree.rule r) p (failed d.height d.reach) × (d.end ≡ p) × (d.nodes ≡ 0)

  abbrev pub RuleExplains : ℕ → ℕ → Answer → Type 0
  RuleExplains r p too_deep = Unit {0}
  RuleExplains r p (done d) = AnswerExplains r p d d.matched

  taken_explains : (r p : ℕ) (s : Progress) (d : Reading) (v : Bool) → AnswerExplains r p d v → Explains (Tree.rule r) p s (taken s d v)
  taken_explains r p s d true D =
      record { height = d.height; looked = d.reach; nodes = d.nodes; comes = D; grown = record { height = refl; reach = refl; nodes = refl } }
  taken_explains r p s d false D = record { height = d.height; looked = d.reach; comes = D.0; is_height = refl; is_reach = refl }

  take_explains : (r p : ℕ) (s : Progress) (x : Answer) → RuleExplains r p x → Explains (Tree.rule r) p s (take s x)
  take_explains r p s too_deep E = tt
  take_explains r p s (done d) E = taken_explains r p s d d.matched E

  close_explains : (r p : ℕ) (o : Outcome) → Explains (body g r) p (start p) o → RuleExplains r p (close p o)
  close_explains r p deep E = tt
  close_explains r p (hit q u) E =
      let e : matched q (suc u.height) u.reach u.nodes ≡ matched q (suc E.height) (max p E.looked) (min cap E.nodes) = grind arith in
      rw e (Comes.rule E.comes)
  close_explains r p (miss u) E =
      let e : failed (suc u.height) u.reach ≡ failed (suc E.height) (max p E.looked) = grind arith in
      (rw e (Comes.rule E.comes), refl, refl)

  -- Expressions, where the rules' answers are explained, and a repeat's part takes a byte.

  turns_explain : (a : Tree) (f : Work) → ((p : ℕ) (s : Progress) → p ≤ length w → s.nodes ≤ cap → Explains a p s (f p s))
      → ((p : ℕ) (s : Progress) → p ≤ length w → Stayed (length w) p s (f p s))
      → ((p : ℕ) (s : Progress) (q : ℕ) (u : Progress) → p ≤ length w → f p s ≡ hit q u → p < q)
      → (m p : ℕ) (s : Progress) → length w - p < m → p ≤ length w → s.nodes ≤ cap → Explains (Tree.repeat a) p s (turns m f p s)
  turns_explain a f E S M zero p s k l c = absurd (omega arith)
  turns_explain a f E S M (suc m) p s k l c =
      by (f p s) refl (E p s l c) (S p s l) (turns_explain a f E S M m)
    where
      by : (o : Outcome) → f p s ≡ o → Explains a p s o → Stayed (length w) p s o
          → ((q : ℕ) (u : Progress) → length w - q < m → q ≤ length w → u.nodes ≤ cap → Explains (Tree.repeat a) q u (turns m f q u))
          → Explains (Tree.repeat a) p s (after (λ q. onward (ltb p q) (turns m f) q) (back_to p s.nodes hit) o)
      by deep e X Y next = tt
      by (hit q u) e X Y next =
          let moved : p < q = M p s q u l e in
          rw (lt-ltb p q moved)
          (then_explains (Tree.repeat a) (Tree.repeat a) p q X.grown
          (λ x D. Comes.repeat X.comes D) _ (next q u (omega arith) Y.ends (omega arith)))
      by (miss u) e X Y next = rests (Tree.repeat a) p s u X.height X.looked c X.is_height X.is_reach (Comes.repeat_ends X.comes)

  sequence_explains : (a b : Tree) (f : Work) (p : ℕ) (s : Progress) (o : Outcome) → Explains a p s o
      → ((q : ℕ) (u : Progress) → o ≡ hit q u → u.nodes ≤ cap → Explains b q u (f q u))
      → Explains (Tree.sequence a b) p s (after f miss o)
  sequence_explains a b f p s deep X B = tt
  sequence_explains a b f p s (hit q u) X B =
      then_explains (Tree.sequence a b) b p q X.grown (λ x D. Comes.sequence X.comes D) _
      (B q u refl (omega arith))
  sequence_explains a b f p s (miss u) X B =
      record { height = X.height; looked = X.looked; comes = Comes.sequence_fails X.comes; is_height = X.is_height; is_reach = X.is_reach }

  choice_explains : (a b : Tree) (f : Work) (p : ℕ) (s : Progress) (o : Outcome) → s.nodes ≤ cap → Explains a p s o
      → ((u : Progress) → Explains b p (left s.nodes u) (f p (left s.nodes u)))
      → Explains (Tree.choice a b) p s (after hit (back_to p s.nodes f) o)
  choice_explains a b f p s deep c X B = tt
  choice_explains a b f p s (hit q u) c X B =
      record { height = X.height; looked = X.looked; nodes = X.nodes; comes = Comes.choice_first X.comes; grown = X.grown }
  choice_explains a b f p s (miss u) c X B =
      then_explains (Tree.choice a b) b p p (back_grown s u X.height X.looked c X.is_height X.is_reach) (λ x D. Comes.choice_second X.comes D)
      _ (B u)

  ahead_explains : (a : Tree) (p : ℕ) (s : Progress) (o : Outcome) → s.nodes ≤ cap → Explains a p s o
      → Explains (Tree.ahead a) p s (after (λ q. back_to p s.nodes hit) miss o)
  ahead_explains a p s deep c X = tt
  ahead_explains a p s (hit q u) c X =
      rests (Tree.ahead a) p s u X.height X.looked c X.grown.height X.grown.reach (Comes.ahead X.comes)
  ahead_explains a p s (miss u) c X =
      record { height = X.height; looked = X.looked; comes = Comes.ahead_fails X.comes; is_height = X.is_height; is_reach = X.is_reach }

  absent_explains : (a : Tree) (p : ℕ) (s : Progress) (o : Outcome) → s.nodes ≤ cap → Explains a p s o
      → Explains (Tree.absent a) p s (after (λ q. miss) (back_to p s.nodes hit) o)
  absent_explains a p s deep c X = tt
  absent_explains a p s (hit q u) c X =
      record { height = X.height; looked = X.looked; comes = Comes.absent_fails X.comes; is_height = X.grown.height; is_reach = X.grown.reach }
  absent_explains a p s (miss u) c X = rests (Tree.absent a) p s u X.height X.looked c X.is_height X.is_reach (Comes.absent X.comes)

  link_explains : (a : Tree) (p : ℕ) (s : Progress) (o : Outcome) → Explains a p s o → Explains (Tree.link a) p s o
  link_explains a p s deep X = tt
  link_explains a p s (hit q u) X =
      record { height = X.height; looked = X.looked; nodes = X.nodes; comes = Comes.link X.comes; grown = X.grown }
  link_explains a p s (miss u) X =
      record { height = X.height; looked = X.looked; comes = Comes.link X.comes; is_height = X.is_height; is_reach = X.is_reach }

  module _ (k : ℕ) (R : (r p : ℕ) → p ≤ length w → RuleExplains r p (read g w k r p)) where
    abbrev ask : ℕ → ℕ → Answer
    ask = read g w k

    work_explains : (t : Tree) → Moving g t → (p : ℕ) (s : Progress) → p ≤ length w → s.nodes ≤ cap → Explains t p s (work w ask t p s)
    work_explains Tree.empty M p s l c = hit_here Tree.empty p s c Comes.empty
    work_explains (Tree.text cs) M p s l c = spell_explains cs p s c
    work_explains (Tree.range low high) M p s l c = range_explains low high p s c
    work_explains (Tree.rule r) M p s l c = take_explains r p s _ (R r p l)
    work_explains (Tree.sequence a b) M p s l c =
        sequence_explains a b (work w ask b) p s _ (work_explains a M.0 p s l c)
        (λ q u e n. work_explains b M.1 q u (part_ends g w k a p s q u l e) n)
    work_explains (Tree.choice a b) M p s l c =
        choice_explains a b (work w ask b) p s _ c (work_explains a M.0 p s l c) (λ u. work_explains b M.1 p (left s.nodes u) l c)
    work_explains (Tree.repeat a) M p s l c =
        turns_explain a (work w ask a) (work_explains a M.1) (part_stays g w k a) (λ q u r v m e. M.0 w k q u r v m e)
        (suc (length w - p)) p s (omega arith) l c
    work_explains (Tree.ahead a) M p s l c = ahead_explains a p s _ c (work_explains a M p s l c)
    work_explains (Tree.absent a) M p s l c = absent_explains a p s _ c (work_explains a M p s l c)
    work_explains (Tree.node a) M p s l c =
        then_explains (Tree.node a) a p p (made_grown s c) (λ x D. Comes.node D) _ (work_explains a M p (made s) l (omega arith))
    work_explains (Tree.link a) M p s l c = link_explains a p s _ (work_explains a M p s l c)
    work_explains (Tree.fold a) M p s l c =
        then_explains (Tree.fold a) a p p (made_grown s c) (λ x D. Comes.fold D) _ (work_explains a M p (made s) l (omega arith))
    work_explains (Tree.tag n) M p s l c = hit_here (Tree.tag n) p s c Comes.tag

  pub read_explains : ((r : ℕ) → Moving g (body g r)) → (k r p : ℕ) → p ≤ length w → RuleExplains r p (read g w k r p)
  read_explains M zero r p l = tt
  read_explains M (suc k) r p l =
      close_explains r p _
      (work_explains k (read_explains M k) (body g r) (M r) p (start p) l (omega arith))
