-- Draft: a tree being built: the position, the current node or none, and the table of the nodes made so far.
-- build: building along the matching path of an expression. grow: along that of a rule.
-- tree: the draft at the end of a rule that matches at a position; its current node is the root.
use Rattle.std.specs.Prelude.{ℕ, zero, suc, ◌+◌, ◌-◌, Bool, true, false, cond, List, [], ◌∷◌, ◌++◌, length, ◌==◌, nat_lt, slice_index_or, slice_set}
use Rattle.reading.specs.declared.node.Node.{Node}
use Rattle.reading.specs.Tree.{Tree, body}
use Rattle.reading.specs.Tree.Tree.{empty, text, range, rule, sequence, choice, repeat, ahead, absent, node, link, fold, tag}
use Rattle.reading.specs.Reading.{Outcome, Answer, work, start, read, depth}
use Rattle.reading.specs.Reading.Outcome.{deep, hit, miss}

-- the number that names no node
abbrev pub none : ℕ
none = 65535

pub record Draft : Type 0 where
  pub position : ℕ
  pub current : ℕ
  pub table : List Node

-- Nodes.

-- a new node at a position, with one child or none
abbrev pub fresh : ℕ → ℕ → Node
fresh p child = record { tag = 0; from = p; to = p; up = none; first = child; last = child; next = none }

abbrev pub tagged : ℕ → Node → Node
tagged t x = record { tag = t; from = x.from; to = x.to; up = x.up; first = x.first; last = x.last; next = x.next }

abbrev pub ending_at : ℕ → Node → Node
ending_at p x = record { tag = x.tag; from = x.from; to = p; up = x.up; first = x.first; last = x.last; next = x.next }

abbrev pub under : ℕ → Node → Node
under n x = record { tag = x.tag; from = x.from; to = x.to; up = n; first = x.first; last = x.last; next = x.next }

abbrev pub before : ℕ → Node → Node
before n x = record { tag = x.tag; from = x.from; to = x.to; up = x.up; first = x.first; last = x.last; next = n }

-- with one child more, the last; it is the first too where there was none
abbrev pub with_child : ℕ → Node → Node
with_child n x =
    record { tag = x.tag; from = x.from; to = x.to; up = x.up; first = cond (x.first == none) n x.first; last = n; next = x.next }

-- Tables.

-- past the table stands a node without links
abbrev pub node_at : List Node → ℕ → Node
node_at xs n = slice_index_or xs n (fresh 0 none)

-- node n is altered; where the table has no such node, nothing is
abbrev pub alter : ℕ → (Node → Node) → List Node → List Node
alter n f xs = slice_set xs n (f (node_at xs n))

-- node n becomes the last child of node m, where both are nodes
abbrev pub adopt : ℕ → ℕ → List Node → List Node
adopt m n xs =
    cond (m == none) xs
    (cond (n == none) xs
    (alter m (with_child n) (alter (node_at xs m).last (before n) (alter n (under m) xs))))

-- Drafts.

abbrev pub move_to : ℕ → Draft → Draft
move_to p h = record { position = p; current = h.current; table = h.table }

-- a new node is made, with this child or none, and becomes the current one
abbrev pub begin : ℕ → Draft → Draft
begin child h =
    record {
      position = h.position;
      current = length h.table;
      table = alter child (under (length h.table)) h.table ++ (fresh h.position child ∷ []);
    }

-- the current node ends here
abbrev pub finish : Draft → Draft
finish h = record { position = h.position; current = h.current; table = alter h.current (ending_at h.position) h.table }

-- the current node is put aside
abbrev pub aside : Draft → Draft
aside h = record { position = h.position; current = none; table = h.table }

-- the old current node is taken back, and the one that was current becomes its last child
abbrev pub back : ℕ → Draft → Draft
back old h = record { position = h.position; current = old; table = adopt old h.current h.table }

abbrev pub name : ℕ → Draft → Draft
name t h = record { position = h.position; current = h.current; table = alter h.current (tagged t) h.table }

-- Building: only what matches is followed, and predicates never are.

abbrev pub Build : Type 0
Build = Draft → Draft

abbrev pub choose : Outcome → Build → Build → Build
choose deep first second h = h
choose (hit q s) first second h = first h
choose (miss s) first second h = second h

abbrev pub moved_built : Bool → Build → Build → Build
moved_built true part next h = next (part h)
moved_built false part next h = part h

abbrev pub again_built : Outcome → Build → Build → Build
again_built deep part next h = h
again_built (hit q s) part next h = moved_built (nat_lt h.position q) part next h
again_built (miss s) part next h = h

-- at most so many turns; `decide p` is what the part comes to at position p
abbrev pub turns_built : ℕ → (ℕ → Outcome) → Build → Build
turns_built zero decide part h = h
turns_built (suc m) decide part h = again_built (decide h.position) part (turns_built m decide part) h

-- where `follow r` builds along the path of rule r
abbrev pub build : List ℕ → (ℕ → ℕ → Answer) → (ℕ → Build) → Tree → Build
build w ask follow empty h = h
build w ask follow (text cs) h = move_to (h.position + length cs) h
build w ask follow (range low high) h = move_to (suc h.position) h
build w ask follow (rule r) h = follow r h
build w ask follow (sequence a b) h = build w ask follow b (build w ask follow a h)
build w ask follow (choice a b) h =
    choose (work w ask a h.position (start h.position)) (build w ask follow a) (build w ask follow b) h
build w ask follow (repeat a) h =
    turns_built (suc (length w - h.position)) (λ p. work w ask a p (start p)) (build w ask follow a) h
build w ask follow (ahead a) h = h
build w ask follow (absent a) h = h
build w ask follow (node a) h = finish (build w ask follow a (begin none h))
build w ask follow (link a) h = back h.current (build w ask follow a (aside h))
build w ask follow (fold a) h = finish (build w ask follow a (begin h.current h))
build w ask follow (tag n) h = name n h

-- rule r, where k rules may be open one inside another
abbrev pub grow : List Tree → List ℕ → ℕ → ℕ → Build
grow g w zero r h = h
grow g w (suc k) r h = build w (read g w k) (grow g w k) (body g r) h

abbrev pub blank : ℕ → Draft
blank p = record { position = p; current = none; table = [] }

abbrev pub tree : List Tree → List ℕ → ℕ → ℕ → Draft
tree g w r p = grow g w depth r (blank p)
