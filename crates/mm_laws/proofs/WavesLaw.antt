-- Where all theorems are valid, each has one wave.
use Rattle.std.proofs.Common.{ℕ, zero, suc, ◌<◌, ◌≤◌, Bool, true, false, ◌⊎◌, inl, inr, List}
use Rattle.std.proofs.Common.{length, None, refl, subst, arith, true≢false, sym, ◌∙◌}
use Rattle.std.specs.Prelude.{IsTrue}
use Rattle.std.specs.List.{list_any}
use Rattle.std.proofs.lemmas.Bool.{cases_eq, cases_lt, cases_Bool}
use Rattle.mm_spec.specs.Statement.{Statement}
use Rattle.mm_spec.specs.Scope.{statement_at}
use Rattle.mm_spec.specs.Laws.Chains.{TheoremChain}
use Rattle.mm_spec.specs.Citation.{is_theorem, Cites}
use Rattle.mm_spec.specs.Laws.Waves.{IsWave, IsTheorem}
use Rattle.mm_spec.specs.Laws.Complete.{AreComplete}
use Rattle.mm_spec.specs.Lexed.{LexedText}
use Rattle.mm_spec.specs.Output.{AreValid}
use Rattle.mm_spec.specs.Laws.Decided.{IsDecided}
use Rattle.mm_laws.specs.Laws.OneWave.{HaveWaves}
use Rattle.mm_spec.proofs.ChainsLaw.{longest_chains_are_equal}
use Rattle.mm_spec.specs.Opened.{open_as_axioms}
use Rattle.mm_spec.proofs.CompleteLaw.{reads_complete}
use Rattle.mm_spec.proofs.OpenedLaw.{counted_complete}
use Rattle.mm_spec.proofs.CitedLaw.{cited_lt_theorem}
use Rattle.mm_spec.proofs.RestsLaw.{cites_is_decided}

module _ (db : List Statement) (by_essential : Bool) (all_complete : AreComplete db)
    (are_valid : AreValid db (length db)) where
  abbrev IsLink : ℕ → ℕ → Type 0
  IsLink t b = Cites db by_essential t b × IsTrue (list_any is_theorem (statement_at db b))

  link_or_none : (t b : ℕ) → IsLink t b ⊎ (IsLink t b → ⊥)
  link_or_none t b = elim (cases_Bool (list_any is_theorem (statement_at db b))) [
    | inr no_theorem ↦ inr (λ is_link. true≢false (sym is_link.1 ∙ no_theorem))
    | inl is_theorem_b ↦ link_by_citation is_theorem_b
        (cites_is_decided db by_essential all_complete are_valid t b)
  ]
    where
      link_by_citation : IsTrue (list_any is_theorem (statement_at db b))
          → IsDecided (Cites db by_essential t b) → IsLink t b ⊎ (IsLink t b → ⊥)
      link_by_citation is_theorem_b (true, decides) = inl (decides.0 refl, is_theorem_b)
      link_by_citation is_theorem_b (false, decides) =
          inr (λ is_link. true≢false (sym (decides.1 is_link.0)))

  -- a longest chain from t whose first link is below n
  abbrev LongestBelow : ℕ → ℕ → Type 0
  LongestBelow t n =
      (m : ℕ) × TheoremChain (Cites db by_essential) (IsTheorem db) t m
      × ((b : ℕ) → b < n → IsLink t b → (k : ℕ)
      → TheoremChain (Cites db by_essential) (IsTheorem db) b k → k < m)

  longest_below : (t n : ℕ) → ((b : ℕ) → b < n → (w : ℕ) × IsWave db by_essential b w)
      → LongestBelow t n
  longest_below t zero have_waves_below = (0, tt, λ b b_lt_0. absurd (omega arith))
  longest_below t (suc n) have_waves_below =
      let longest = longest_below t n (λ b b_lt_n. have_waves_below b (omega arith)) in
      let wave = have_waves_below n (omega arith) in
      elim (link_or_none t n) [
        | inr not_linked ↦ (
          longest.0,
          longest.1,
          λ b b_lt is_link k is_chain. elim (cases_eq b n) [
            | inl b_is_n ↦ absurd (not_linked (subst (IsLink t) b_is_n is_link))
            | inr b_is_not_n ↦ longest.2 b (omega arith) is_link k is_chain
          ],
        )
        | inl is_link ↦ elim (cases_lt wave.0 longest.0) [
          | inl wave_lt ↦ (
            longest.0,
            longest.1,
            next_is_longest wave longest longest.0 wave_lt (omega arith),
          )
          | inr longest_le ↦ (
            suc wave.0,
            (n, is_link.0, is_link.1, wave.1.0),
            next_is_longest wave longest (suc wave.0) (omega arith) (omega arith),
          )
        ]
      ]
    where
      next_is_longest : (wave : (wave : ℕ) × IsWave db by_essential n wave) (r : LongestBelow t n)
          (m : ℕ) → wave.0 < m → r.0 ≤ m
          → (b : ℕ) → b < suc n → IsLink t b → (k : ℕ)
          → TheoremChain (Cites db by_essential) (IsTheorem db) b k → k < m
      next_is_longest wave longest m wave_lt_m longest_le_m b b_lt is_link k is_chain =
          elim (cases_eq b n) [
            | inl b_is_n ↦ omega (
              arith,
              wave.1.1 k
                  (subst (λ i. TheoremChain (Cites db by_essential) (IsTheorem db) i k) b_is_n
                  is_chain),
            )
            | inr b_is_not_n ↦ omega (arith, longest.2 b (omega arith) is_link k is_chain)
          ]

  -- a longest chain is the wave
  longest_is_wave : (t : ℕ) → LongestBelow t t → (w : ℕ) × IsWave db by_essential t w
  longest_is_wave t longest_below_t = (longest_below_t.0, (longest_below_t.1, no_chain_is_longer))
    where
      no_chain_is_longer : (m : ℕ) → TheoremChain (Cites db by_essential) (IsTheorem db) t m
          → m ≤ longest_below_t.0
      no_chain_is_longer zero is_chain = omega arith
      no_chain_is_longer (suc m) is_chain =
          let m_lt_longest = longest_below_t.2 is_chain.0 (cited_lt_theorem db by_essential t
          is_chain.0 is_chain.1) (is_chain.1, is_chain.2) m is_chain.3 in omega arith

  wave_below_exists : (n t : ℕ) → t < n → (w : ℕ) × IsWave db by_essential t w
  wave_below_exists zero t t_lt_0 = absurd (omega arith)
  wave_below_exists (suc n) t t_lt_suc_n =
      longest_is_wave t (longest_below t t (λ b b_lt_t. wave_below_exists n b (omega arith)))

  pub wave_exists : (t : ℕ) → (w : ℕ) × IsWave db by_essential t w
  wave_exists t = wave_below_exists (suc t) t (omega arith)

-- in a sound text each theorem has one wave
pub have_waves : (len : ℕ) (x : LexedText) (with_open : Bool) → HaveWaves len x with_open
have_waves len x with_open db has_no_fault by_essential t =
    let statements = open_as_axioms with_open db in
    let wave =
    wave_exists statements by_essential
    (counted_complete with_open db (reads_complete len x db None has_no_fault.0)) has_no_fault.1 t
    in (
      wave.0,
      wave.1,
      λ m is_wave. longest_chains_are_equal (Cites statements by_essential)
          (IsTheorem statements) t m wave.0 is_wave wave.1,
    )
