-- The tree of a record is made of the trees of its parts, and the rules that a grammar asks are its own.
use Rattle.std.proofs.Common.{◌≡◌, ℕ, ◌<◌, ◌≤◌, List, length, get_or, replicate, sym, refl, ap, ◌∙◌, inl, inr, arith}
use Rattle.std.proofs.lemmas.Bool.{cases_lt}
use Rattle.std.proofs.lemmas.List.{get_or-replicate, get_or_past, length-replicate}
use lib.ListN.{length-map, get_or-eq_default, get_or-map}
use Rattle.form.specs.declared.expr.Expr.{Expr}
use Rattle.form.specs.declared.expr.Expr.TheVariants.{Empty, Range, Rule, Sequence, Choice}
use Rattle.form.specs.Records.{at, Ordered}
use Rattle.form.specs.Records as records
use Rattle.form.specs.Form.{Contents, Laid, Fields}
use Rattle.form.specs.Tables.{record_table}
use Rattle.form.proofs.Filled.{Local, table_length, table_at, filled_all}
use Rattle.reading.specs.Tree.{Tree, pick, plant, trees, bodies, body, Asks, Closed}
use Rattle.reading.specs.Tree.Tree.{range}

local : (txt : List ℕ) → Local (range 0 0) (plant txt)
local txt t u k n Empty l h = refl
local txt t u k n _ l h = grind arith

module _ (c : Contents) where
  abbrev es : List Expr
  es = c.exprs

  -- past the records there are no trees
  past : (e : ℕ) → length es ≤ e → pick (trees c) e ≡ range 0 0
  past e l = get_or-eq_default (trees c) (range 0 0) (omega (arith, table_length (range 0 0) (plant c.text) es))

  pub planted : Ordered es → (e : ℕ) → pick (trees c) e ≡ plant c.text (trees c) (at es e)
  planted ord e =
      elim (cases_lt e (length es)) [
        | inl l ↦ table_at (range 0 0) (plant c.text) (local c.text) es ord e l
        | inr l ↦ past e l ∙ ap (plant c.text (trees c)) (sym (get_or-eq_default es (Range 0 0) l))
      ]

  -- what a range has, and a tree whose parts have it, each record's tree has
  pub each_tree : (P : ℕ → Tree → Type 0) → ((e : ℕ) → P e (range 0 0))
      → ((e : ℕ) (ts : List Tree) → ((j : ℕ) → P j (pick ts j)) → P e (plant c.text ts (at es e))) → (e : ℕ) → P e (pick (trees c) e)
  unfolding record_table
  each_tree P base step =
      filled_all (range 0 0) (λ e t. plant c.text t (at es e)) P step 0 (length es) (replicate (length es) (range 0 0))
      (λ j. rw (same j) (base j))
    where
      same : (j : ℕ) → pick (replicate (length es) (range 0 0)) j ≡ range 0 0
      same j = grind (arith, get_or-replicate, get_or_past, length-replicate)

  pub rule_tree : (r : ℕ) → body (bodies c) r ≡ pick (trees c) (records.body es c.rules r)
  rule_tree r = ap (get_or (bodies c) r) (sym (past (length es) (omega arith))) ∙ get_or-map (pick (trees c)) c.rules r (length es)

  pub bodies_length : length (bodies c) ≡ length c.rules
  bodies_length = length-map c.rules (pick (trees c))

  -- the range past the records has its fields in order too
  pub fields_at : Laid c → (e : ℕ) → Fields (length c.text) (length c.rules) (at es e)
  fields_at L e =
      elim (cases_lt e (length es)) [
        | inl l ↦ L.fields e l
        | inr l ↦ rw (get_or-eq_default es (Range 0 0) l) (omega arith, omega arith)
      ]

-- the rules asked are below m
abbrev Below : ℕ → Tree → Type 0
Below m t = (q : ℕ) → Asks q t → q < m

plant_below : (s m : ℕ) (txt : List ℕ) (ts : List Tree) → ((j : ℕ) → Below m (pick ts j)) → (x : Expr) → Fields s m x → Below m (plant txt ts x)
plant_below s m txt ts B (Rule r) f q h = rw h f
plant_below s m txt ts B (Sequence a b) f q h = elim h [ inl i ↦ B a q i | inr i ↦ B b q i ]
plant_below s m txt ts B (Choice a b) f q h = elim h [ inl i ↦ B a q i | inr i ↦ B b q i ]
plant_below s m txt ts B _ f q h = search

pub closed : (c : Contents) → Laid c → Closed (bodies c)
closed c L r q h =
    let below : Below (length c.rules) (pick (trees c) (records.body c.exprs c.rules r)) =
    each_tree c (λ e t. Below (length c.rules) t) (λ e i k. absurd k)
    (λ e ts B. plant_below (length c.text) (length c.rules) c.text ts B (at c.exprs e) (fields_at c L e))
    (records.body c.exprs c.rules r) in
    rw (bodies_length c) (below q (rw (rule_tree c r) at h))
