-- What is proved of building.
-- Link: a number that is none or a node. SoundNode, Sound: nodes inside what was read, with links in order.
-- Followed: building along a match. Table: the table of a reading.
-- Folded, Linked: what a fold and a link make of the table. FoldsKept, LinksKept, TagsKept: that they do, whatever their parts are.
use Rattle.std.specs.Prelude.{◌≡◌, ℕ, ◌+◌, ◌<◌, ◌≤◌, min, true, ◌⊎◌, List, length, ◌≢◌, All}
use Rattle.reading.specs.declared.answer.Reading.{Reading}
use Rattle.reading.specs.declared.node.Node.{Node}
use Rattle.reading.specs.Tree.{Tree}
use Rattle.reading.specs.Tree.Tree.{sequence, link, fold, tag}
use Rattle.reading.specs.Reading.{read, cap, depth}
use Rattle.reading.specs.Reading.Answer.{done}
use Rattle.reading.specs.Building.{Draft, none, node_at, aside, build, grow, tree}

-- in a table of n nodes
abbrev pub Link : ℕ → ℕ → Type 0
Link n i = (i ≡ none) ⊎ (i < n)

-- a node of a table of n nodes, up to position p
pub record SoundNode (n p : ℕ) (x : Node) : Type 0 where
  pub forward : x.from ≤ x.to
  pub ends : x.to ≤ p
  pub up : Link n x.up
  pub first : Link n x.first
  pub last : Link n x.last
  pub next : Link n x.next

pub record Sound (h : Draft) : Type 0 where
  pub current : Link (length h.table) h.current
  pub nodes : All (SoundNode (length h.table) h.position) h.table

-- from the draft h to the draft h', along a match that ended at q; n nodes were counted before, m after
pub record Followed (q n m : ℕ) (h h' : Draft) : Type 0 where
  pub came : h'.position ≡ q
  pub more : ℕ
  pub longer : length h'.table ≡ length h.table + more
  pub counted : m ≡ min cap (n + more)

-- h is what was built of the reading d, on an input of n bytes
pub record Table (n : ℕ) (d : Reading) (h : Draft) : Type 0 where
  pub came : h.position ≡ d.end
  pub count : length h.table ≡ d.nodes
  pub root : Link d.nodes h.current
  pub nodes : All (SoundNode d.nodes n) h.table

-- a match with fewer nodes than are counted has such a table
abbrev pub Tabled : Reading → Type 0
Tabled d = (g : List Tree) (w : List ℕ) (r p : ℕ) → p ≤ length w → read g w depth r p ≡ done d → d.matched ≡ true → d.nodes < cap
    → Table (length w) d (tree g w r p)

-- from the draft h to the draft h': the fold's node, the next of the table, is the parent of the node that was current
pub record Folded (h h' : Draft) : Type 0 where
  pub from : (node_at h'.table (length h.table)).from ≡ h.position
  pub first : (node_at h'.table (length h.table)).first ≡ h.current
  pub up : (node_at h'.table h.current).up ≡ length h.table

-- from the draft h to the draft h', where node x was current behind the link's part: x is the last child of the current node
pub record Linked (h : Draft) (x : ℕ) (h' : Draft) : Type 0 where
  pub current : h'.current ≡ h.current
  pub last : (node_at h'.table h.current).last ≡ x
  pub first : (node_at h.table h.current).first ≡ none → (node_at h'.table h.current).first ≡ x
  pub up : (node_at h'.table x).up ≡ h.current

-- an expression of the rules' bodies g, where k more rules may be open
abbrev pub follow : List Tree → List ℕ → ℕ → Tree → Draft → Draft
follow g w k e h = build w (read g w k) (grow g w k) e h

-- behind anything that left a current node
abbrev pub FoldsKept : Type 0
FoldsKept = (g : List Tree) (w : List ℕ) (k : ℕ) (a : Tree) (h : Draft)
    → h.current < length h.table → length h.table ≤ none → Folded h (follow g w k (fold a) h)

abbrev pub LinksKept : Type 0
LinksKept = (g : List Tree) (w : List ℕ) (k : ℕ) (a : Tree) (h : Draft) → Sound h
    → h.current < length h.table → length h.table ≤ none → ((follow g w k a (aside h)).current ≢ none)
    → Linked h (follow g w k a (aside h)).current (follow g w k (link a) h)

-- a later tag wins
abbrev pub TagsKept : Type 0
TagsKept = (g : List Tree) (w : List ℕ) (k s t : ℕ) (h : Draft) → follow g w k (sequence (tag s) (tag t)) h ≡ follow g w k (tag t) h
