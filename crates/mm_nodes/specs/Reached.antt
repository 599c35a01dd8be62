-- The nodes of a string, each once.
use Rattle.std.specs.Prelude.{ℕ, ◌+◌, ◌<◌, ◌≡◌, Bool, true, List, [], ◌∷◌, ◌++◌, length, get_or, ◌⊎◌}
use Rattle.std.specs.Prelude.{All}
use Rattle.std.specs.List.{Contains, list_all}
use Rattle.mm_nodes.specs.Strings.{first_node}

-- for each of the nodes, the slots have its index among them
abbrev pub HaveSlots : List ℕ → List ℕ → Type 0
HaveSlots reached slots = (k : ℕ) → k < length reached
    → (get_or reached k 0 < length slots) × (get_or slots (get_or reached k 0) 0 ≡ k)

-- the node was reached before, or it is added to those that were
abbrev pub ReachesToo : ℕ → List ℕ → List ℕ → Type 0
ReachesToo node reached reached' =
    (Contains reached node × (reached' ≡ reached)) ⊎ (reached' ≡ reached ++ node ∷ [])

-- the body is one of the symbols, or one of the nodes that were reached
pub record IsCovered (reached symbols : List ℕ) (b : ℕ) : Type 0 where
  pub symbol : b < first_node → Contains symbols b
  pub node : (n : ℕ) → b ≡ first_node + n → Contains reached n

-- Bodies are reached: each is among the symbols or the nodes afterwards, and what was added to
-- these are some of the bodies: what all nodes and symbols passed before, and these bodies pass, all
-- pass afterwards.
pub record ReachesBodies (bodies reached symbols reached' symbols' : List ℕ) : Type 0 where
  pub more_reached : (more : List ℕ) × (reached' ≡ reached ++ more)
  pub more_symbols : (more : List ℕ) × (symbols' ≡ symbols ++ more)
  pub are_covered : All (IsCovered reached' symbols') bodies
  pub nodes_pass : (test : ℕ → Bool) → list_all test reached ≡ true
      → All (λ b. (n : ℕ) → b ≡ first_node + n → test n ≡ true) bodies
      → list_all test reached' ≡ true
  pub symbols_pass : (test : ℕ → Bool) → list_all test symbols ≡ true
      → All (λ b. b < first_node → test b ≡ true) bodies → list_all test symbols' ≡ true
