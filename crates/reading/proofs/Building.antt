-- A property of two drafts that each step of building keeps is one of the drafts before and behind any expression and rule.
use Rattle.std.proofs.Common.{ℕ, zero, suc, ◌+◌, ◌-◌, ◌≤◌, Bool, true, false, ltb, List, length, arith}
use Rattle.reading.specs.Tree.{Tree, body}
use Rattle.reading.specs.Tree.Tree.{text, range, rule, sequence, choice, repeat, node, link, fold, tag}
use Rattle.reading.specs.Reading.{Outcome, Answer, work, start, read}
use Rattle.reading.specs.Reading.Outcome.{deep, hit, miss}
use Rattle.reading.specs.Building.{Draft, Build, none, move_to, begin, finish, aside, back, name, choose, moved_built, again_built, turns_built, build, grow}

pub record EachStep (P : Draft → Draft → Type 0) : Type 0 where
  pub stays : (h : Draft) → P h h
  pub moves : (q : ℕ) (h : Draft) → h.position ≤ q → P h (move_to q h)
  pub names : (t : ℕ) (h : Draft) → P h (name t h)
  pub goes_on : (h h' h'' : Draft) → P h h' → P h' h'' → P h h''
  pub makes : (f : Build) → ((h : Draft) → P h (f h)) → (h : Draft) → P h (finish (f (begin none h)))
  pub folds : (f : Build) → ((h : Draft) → P h (f h)) → (h : Draft) → P h (finish (f (begin h.current h)))
  pub links : (f : Build) → ((h : Draft) → P h (f h)) → (h : Draft) → P h (back h.current (f (aside h)))

module _ (P : Draft → Draft → Type 0) (K : EachStep P) where
  abbrev pub Has : Build → Type 0
  Has f = (h : Draft) → P h (f h)

  choose_has : (o : Outcome) (f g : Build) → Has f → Has g → Has (choose o f g)
  choose_has deep f g F G h = K.stays h
  choose_has (hit q t) f g F G h = F h
  choose_has (miss t) f g F G h = G h

  moved_has : (v : Bool) (f g : Build) → Has f → Has g → Has (moved_built v f g)
  moved_has true f g F G h = K.goes_on h (f h) (g (f h)) (F h) (G (f h))
  moved_has false f g F G h = F h

  again_has : (o : Outcome) (f g : Build) → Has f → Has g → Has (again_built o f g)
  again_has (hit q t) f g F G h = moved_has (ltb h.position q) f g F G h
  again_has _ f g F G h = K.stays h

  turns_has : (m : ℕ) (d : ℕ → Outcome) (f : Build) → Has f → Has (turns_built m d f)
  turns_has zero d f F h = K.stays h
  turns_has (suc m) d f F h = again_has (d h.position) f (turns_built m d f) F (turns_has m d f F) h

  build_has : (w : List ℕ) (ask : ℕ → ℕ → Answer) (follow : ℕ → Build) → ((r : ℕ) → Has (follow r)) → (e : Tree) → Has (build w ask follow e)
  build_has w ask follow R (text cs) h = K.moves (h.position + length cs) h (omega arith)
  build_has w ask follow R (range low high) h = K.moves (suc h.position) h (omega arith)
  build_has w ask follow R (rule r) h = R r h
  build_has w ask follow R (sequence a b) h =
      let h' = build w ask follow a h in
      K.goes_on h h' (build w ask follow b h') (build_has w ask follow R a h) (build_has w ask follow R b h')
  build_has w ask follow R (choice a b) h =
      choose_has (work w ask a h.position (start h.position)) (build w ask follow a) (build w ask follow b)
      (build_has w ask follow R a) (build_has w ask follow R b) h
  build_has w ask follow R (repeat a) h =
      turns_has (suc (length w - h.position)) (λ p. work w ask a p (start p)) (build w ask follow a) (build_has w ask follow R a) h
  build_has w ask follow R (node a) h = K.makes (build w ask follow a) (build_has w ask follow R a) h
  build_has w ask follow R (link a) h = K.links (build w ask follow a) (build_has w ask follow R a) h
  build_has w ask follow R (fold a) h = K.folds (build w ask follow a) (build_has w ask follow R a) h
  build_has w ask follow R (tag t) h = K.names t h
  build_has w ask follow R _ h = K.stays h

  pub grow_has : (g : List Tree) (w : List ℕ) (k r : ℕ) → Has (grow g w k r)
  grow_has g w zero r h = K.stays h
  grow_has g w (suc k) r h = build_has w (read g w k) (grow g w k) (grow_has g w k) (body g r) h

  pub follow_has : (g : List Tree) (w : List ℕ) (k : ℕ) (e : Tree) → Has (build w (read g w k) (grow g w k) e)
  follow_has g w k e = build_has w (read g w k) (grow g w k) (grow_has g w k) e
