-- How nodes are kept.
use Rattle.std.specs.Prelude.{ℕ, ◌+◌, ◌<◌, ◌≤◌, ◌≡◌, List, [], ◌∷◌, ◌++◌, length, get_or, map, ◌⊎◌}
use Rattle.std.specs.Prelude.{slice_range, All}
use Rattle.mm_nodes.specs.declared.heads.Head.{Head}
use Rattle.mm_nodes.specs.declared.heads.Segment.{Segment}
use Rattle.mm_nodes.specs.Strings.{first_node, strings_of, joined_string_of}

abbrev pub head : ℕ → ℕ → ℕ → Head
head start end length = record { start = start; end = end; length = length }

-- a node without bodies
abbrev pub no_head : Head
no_head = head 0 0 0

-- the bodies of each node
abbrev pub nodes_of : List ℕ → List Head → List (List ℕ)
nodes_of bodies heads = map (λ h. slice_range bodies h.start h.end) heads

-- The bodies of the nodes follow one another without gaps, from index `from` to index `to`.
abbrev pub Follow : ℕ → List Head → ℕ → Type 0
Follow from [] to = from ≡ to
Follow from (h ∷ heads) to = (h.start ≡ from) × (from ≤ h.end) × Follow h.end heads to

-- the bodies of a node are among all, each is a symbol or an earlier node, and its length is right
pub record IsNode (bodies : List ℕ) (heads : List Head) (i : ℕ) : Type 0 where
  pub start_le_end : (get_or heads i no_head).start ≤ (get_or heads i no_head).end
  pub end_le_length : (get_or heads i no_head).end ≤ length bodies
  pub bodies_below : All (λ b. b < first_node + i) (get_or (nodes_of bodies heads) i [])
  pub length_is : (get_or heads i no_head).length
      ≡ length (get_or (strings_of (nodes_of bodies heads)) i [])

abbrev pub AreNodes : List ℕ → List Head → Type 0
AreNodes bodies heads = (i : ℕ) → i < length heads → IsNode bodies heads i

-- these are nodes, and no further bodies are kept
pub record IsStore (bodies : List ℕ) (heads : List Head) : Type 0 where
  pub follow : Follow 0 heads (length bodies)
  pub are_nodes : AreNodes bodies heads
  pub count_lt : length heads < first_node

abbrev pub segment : ℕ → ℕ → Segment
segment start end = record { start = start; end = end }

-- the bodies of a segment
abbrev pub segment_bodies : List ℕ → Segment → List ℕ
segment_bodies bodies s = slice_range bodies s.start s.end

-- the string of a segment of bodies
abbrev pub segment_string : List ℕ → List Head → Segment → List ℕ
segment_string bodies heads s = joined_string_of (nodes_of bodies heads) (segment_bodies bodies s)

-- a segment of the bodies, each of which is a symbol or one of the nodes
pub record IsBodySegment (bodies : List ℕ) (heads : List Head) (s : Segment) : Type 0 where
  pub end_le_length : s.end ≤ length bodies
  pub are_bodies : All (λ b. b < first_node + length heads) (segment_bodies bodies s)

-- the first body of a segment is left out, and the rest is put off, if there is any
abbrev pub MayPutOff : Segment → List Segment → List Segment → Type 0
MayPutOff s later later' =
    ((s.end ≤ s.start + 1) × (later' ≡ later))
    ⊎ (later' ≡ later ++ segment (s.start + 1) s.end ∷ [])

-- the segment has the bodies of the node
abbrev pub IsSegmentOf : List Head → ℕ → Segment → Type 0
IsSegmentOf heads i s =
    (s.start ≡ (get_or heads i no_head).start) × (s.end ≡ (get_or heads i no_head).end)

-- so many bodies are the same from the one index on and from the other
abbrev pub AreSame : List ℕ → ℕ → ℕ → ℕ → Type 0
AreSame bodies a b count = (k : ℕ) → k < count → get_or bodies (a + k) 0 ≡ get_or bodies (b + k) 0

-- the first `n` bodies of two segments are the same, and those after them aren't
pub record IsFirstDifference (bodies : List ℕ) (left right : Segment) (n : ℕ) : Type 0 where
  pub left_lt : left.start + n < left.end
  pub right_lt : right.start + n < right.end
  pub are_same : AreSame bodies left.start right.start n
  pub differ : get_or bodies (left.start + n) 0 ≡ get_or bodies (right.start + n) 0 → ⊥
