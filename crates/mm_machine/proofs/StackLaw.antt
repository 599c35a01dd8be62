-- The entries of the stack, of which none needs more nodes than one above it.
use Rattle.std.proofs.Common.{length-append, append_assoc, length-take, Result, get_or, length, All}
use Rattle.std.proofs.Common.{OnErr, arith, rules, subst, List, drop, take, ◌++◌, sym, ◌+◌, ◌<◌}
use Rattle.std.proofs.Common.{◌∙◌, ◌∷◌, ◌≡◌, ◌≤◌, [], ap, ℕ}
use Rattle.std.proofs.lemmas.Grind.{common_steps}
use Rattle.std.proofs.lemmas.List.{take-take, take-append-drop, get_or_append_left}
use Rattle.std.proofs.lemmas.List.{get_or-append-add}
use Rattle.std.proofs.lemmas.List.Elements.{All-push, All-get_or, All-weaker, All-take}
use Rattle.std.proofs.lemmas.List.Elements.{All-from_get_or}
use Rattle.std.proofs.lemmas.Bool.{cases_lt}
use Rattle.mm_nodes.specs.Strings.{first_node, Extends}
use Rattle.mm_machine.specs.declared.entry.Entry.{Entry}
use Rattle.mm_machine.specs.Entries.{no_entry, IsEntry, IsStack}
use Rattle.mm_machine.proofs.EntryLaw.{entries_are_kept}

get_or_take : (k : ℕ) (es : List Entry) (i : ℕ) → i < k
    → get_or (take k es) i no_entry ≡ get_or es i no_entry
get_or_take k es i h1 = grind (arith, common_steps)

-- no entry needs more nodes than one above it
abbrev NeededRises : List Entry → Type 0
NeededRises es = (i j : ℕ) → i ≤ j → j < length es
    → (get_or es i no_entry).needed ≤ (get_or es j no_entry).needed

rises_take : (n : ℕ) (es : List Entry) → NeededRises es → NeededRises (take n es)
rises_take n es rises i j i_le_j j_lt = grind (arith, common_steps, length-take, get_or_take)

rises_push : (es : List Entry) (e : Entry) → NeededRises es → All (λ x. x.needed ≤ e.needed) es
    → NeededRises (es ++ e ∷ [])
rises_push es e rises all_le i j i_le_j j_lt =
    grind (
      arith,
      common_steps,
      cases_lt,
      get_or_append_left,
      get_or-append-add,
      All-get_or,
      length-append,
    )

pub no_stack : (nodes : List (List ℕ)) → length nodes < first_node → IsStack nodes []
no_stack nodes count_lt = grind (arith, common_steps)

-- an entry more, for which all nodes are needed
pub stack_pushed : (nodes : List (List ℕ)) (es : List Entry) (e : Entry) → IsStack nodes es
    → IsEntry nodes e → e.needed ≡ length nodes → IsStack nodes (es ++ e ∷ [])
stack_pushed nodes es e is_stack is_entry needed_is = record {
  count_lt = is_stack.count_lt;
  are_entries = All-push (IsEntry nodes) es e is_stack.are_entries is_entry;
  needed_rises =
      rises_push es e is_stack.needed_rises (All-weaker (IsEntry nodes) (λ x. x.needed ≤ e.needed)
      (λ x x_is_entry. omega (arith, x_is_entry.needed_le_count, needed_is))
      es is_stack.are_entries);
}

-- the first entries
pub stack_cut : (nodes : List (List ℕ)) (below : ℕ) (es : List Entry) → IsStack nodes es
    → IsStack nodes (take below es)
stack_cut nodes below es is_stack = search (rules, arith, All-take, rises_take)

-- the same over the nodes that they need and others
pub stack_kept : (nodes more nodes' : List (List ℕ)) (keep below : ℕ) (es : List Entry)
    → nodes' ≡ take keep nodes ++ more → keep ≤ length nodes → length nodes' < first_node
    → IsStack nodes es → All (λ e. e.needed ≤ keep) (take below es) → IsStack nodes' (take below es)
stack_kept nodes more nodes' keep below es nodes_are keep_le count_lt is_stack are_kept =
    search (rules, arith, entries_are_kept, All-take, rises_take)

-- how many nodes the first entries need
pub needed_by_first : (nodes : List (List ℕ)) (es : List Entry) (below i n : ℕ) → IsStack nodes es
    → i + 1 ≡ below → i < length es → n ≡ (get_or es i no_entry).needed
    → All (λ e. e.needed ≤ n) (take below es)
needed_by_first nodes es below i n is_stack below_is i_lt n_is =
    All-from_get_or (λ e. e.needed ≤ n) (take below es) no_entry (λ k k_lt.
    let taken = length-take below es in
    omega (
      arith,
      ap (λ e. e.needed) (get_or_take below es k (omega (arith, k_lt, taken))),
      is_stack.needed_rises k i (omega (arith, k_lt, taken, below_is)) i_lt,
      n_is,
    ))

-- fewer nodes are kept
pub extends_less : (nodes nodes' : List (List ℕ)) (floor keep : ℕ) → floor ≤ keep
    → Extends (take keep nodes) nodes' → Extends (take floor nodes) nodes'
extends_less nodes nodes' floor keep floor_le extends = (
  drop floor (take keep nodes) ++ extends.0,
  extends.1
      ∙ ap (λ (ns : List (List ℕ)). ns ++ extends.0) (sym (take-append-drop floor (take keep nodes))
      ∙ ap (λ (ns : List (List ℕ)). ns ++ drop floor (take keep nodes))
      (take-take floor keep nodes floor_le))
      ∙ append_assoc (take floor nodes) (drop floor (take keep nodes)) extends.0,
)

pub extends_unchanged : (nodes nodes' : List (List ℕ)) (floor : ℕ) → nodes' ≡ nodes
    → Extends (take floor nodes) nodes'
extends_unchanged nodes nodes' floor nodes_equal =
    (drop floor nodes, nodes_equal ∙ sym (take-append-drop floor nodes))

pub extends_fewer : (nodes nodes' nodes'' : List (List ℕ)) (floor keep : ℕ) → nodes' ≡ nodes
    → floor ≤ keep → Extends (take keep nodes') nodes'' → Extends (take floor nodes) nodes''
extends_fewer nodes nodes' nodes'' floor keep nodes_equal floor_le extends =
    subst (λ ns. Extends (take floor ns) nodes'') nodes_equal
    (extends_less nodes' nodes'' floor keep floor_le extends)

-- what holds if there is an error holds if it holds at all
pub on_err : {T E P : Type 0} (r : Result T E) → P → OnErr r P
on_err r h1 = grind (arith, common_steps)
