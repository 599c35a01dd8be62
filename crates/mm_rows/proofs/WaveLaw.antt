-- Waves, one theorem after the other.
use Rattle.std.proofs.Common.{◌≡◌, ℕ, zero, suc, List, [], ◌∷◌, ◌++◌, inl, inr, ◌<◌, ◌≤◌, ◌+◌, max}
use Rattle.std.proofs.Common.{length, subst, sym, ap, refl, arith, get_or, ◌∙◌, rules}
use Rattle.std.proofs.lemmas.Bool.{cases_eq, cases_lt}
use Rattle.std.proofs.lemmas.List.{length-append, get_or_append_left, get_or_push}
use Rattle.mm_cites.specs.Citing.{Citing, HasCitation, IsFileOrder, theorem_at, list_at}
use Rattle.mm_spec.specs.Laws.Chains.{IsLongestChain, TheoremChain}
use Rattle.mm_rows.specs.Waves.{IsCitingTheorem, AreWaves}
use Rattle.mm_rows.proofs.ChainLaw.{index_is_unique, earlier_row, listed_is_cited, cited_is_listed}

-- a wave from the first n citations of theorem i
pub record WaveTo (c : Citing) (waves : List ℕ) (i : ℕ) (cited : List ℕ) (n wave : ℕ) : Type 0 where
  pub cited_are_list : cited ≡ list_at c i
  pub has_chain : TheoremChain (HasCitation c) (IsCitingTheorem c) (theorem_at c i) wave
  pub wave_is_above : (m r : ℕ) → m < n → r < length c.theorems → theorem_at c r ≡ get_or cited m 0
      → get_or waves r 0 + 1 ≤ wave
  pub wave_le_i : wave ≤ i

-- the wave from one more citation: of citation n, the theorem in row r
pub wave_with_citation : (c : Citing) (waves : List ℕ) (i : ℕ) (cited : List ℕ) (n wave r : ℕ)
    → IsFileOrder c → i < length c.theorems → AreWaves c i waves → n < length cited
    → r < length c.theorems → theorem_at c r ≡ get_or cited n 0 → WaveTo c waves i cited n wave
    → (r < length waves) × WaveTo c waves i cited (n + 1) (max wave (get_or waves r 0 + 1))
wave_with_citation c waves i cited n wave r is_file_order i_lt_theorems are_waves n_lt_length
    r_lt_theorems r_is_cited wave_before =
    let n_lt_list = subst (λ xs. n < length xs) wave_before.cited_are_list n_lt_length in
    let r_is_listed = r_is_cited ∙ ap (λ xs. get_or xs n 0) wave_before.cited_are_list in
    let r_lt_i = earlier_row c i r n is_file_order i_lt_theorems n_lt_list r_lt_theorems
    r_is_listed in
    let wave_of_r_le = are_waves.wave_le_row r r_lt_i in
    let next = get_or waves r 0 + 1 in
    let cites : HasCitation c (theorem_at c i) (theorem_at c r) =
    subst (HasCitation c (theorem_at c i)) (sym r_is_listed)
    (listed_is_cited c i n i_lt_theorems n_lt_list) in (
      omega arith,
      record {
        cited_are_list = wave_before.cited_are_list;
        has_chain = elim (cases_lt wave next) [
          | inl wave_lt_next ↦
              let greater_is : suc (get_or waves r 0) ≡ max wave next = omega arith in
              subst (TheoremChain (HasCitation c) (IsCitingTheorem c) (theorem_at c i)) greater_is (
                theorem_at c r,
                cites,
                (r, r_lt_theorems, refl),
                (are_waves.each_is_wave r r_lt_i).0,
              )
          | inr next_le_wave ↦
              let greater_is : wave ≡ max wave next = omega arith in
              subst (TheoremChain (HasCitation c) (IsCitingTheorem c) (theorem_at c i)) greater_is
              wave_before.has_chain
        ];
        wave_is_above = λ m s m_lt_next s_lt_theorems theorem_is_cited. elim (cases_eq m n) [
          | inl m_is_n ↦
              let s_is_r = index_is_unique c.theorems s r is_file_order.theorems_rise s_lt_theorems
              r_lt_theorems
              (theorem_is_cited ∙ ap (λ k. get_or cited k 0) m_is_n ∙ sym r_is_cited) in
              subst (λ k. get_or waves k 0 + 1 ≤ max wave next) (sym s_is_r) (omega arith)
          | inr m_is_not_n ↦
              let above_cited =
              wave_before.wave_is_above m s (omega arith) s_lt_theorems theorem_is_cited in
              omega arith
        ];
        wave_le_i = omega arith;
      },
    )

-- a citation of what is no theorem leaves the wave as it is
pub wave_without_citation : (c : Citing) (waves : List ℕ) (i : ℕ) (cited : List ℕ) (n wave : ℕ)
    → ((r : ℕ) → r < length c.theorems → theorem_at c r ≡ get_or cited n 0 → ⊥)
    → WaveTo c waves i cited n wave → WaveTo c waves i cited (n + 1) wave
wave_without_citation c waves i cited n wave cites_no_theorem wave_before = grind arith

-- the wave from all citations of theorem i is its wave
pub wave_of_all_citations : (c : Citing) (waves : List ℕ) (i : ℕ) (cited : List ℕ) (wave : ℕ)
    → IsFileOrder c
    → i < length c.theorems → AreWaves c i waves → WaveTo c waves i cited (length cited) wave
    → IsLongestChain (HasCitation c) (IsCitingTheorem c) (theorem_at c i) wave
wave_of_all_citations c waves i cited wave is_file_order i_lt_theorems are_waves wave_of_all =
    (wave_of_all.has_chain, no_longer_chain)
  where
    chain_from_cited : (m b : ℕ) → HasCitation c (theorem_at c i) b → IsCitingTheorem c b
        → TheoremChain (HasCitation c) (IsCitingTheorem c) b m → suc m ≤ wave
    chain_from_cited m b has_citation is_citing_theorem chain_of_cited =
        let r = is_citing_theorem.0 in
        let listed = cited_is_listed c i b is_file_order i_lt_theorems has_citation in
        let r_is_listed = is_citing_theorem.2 ∙ sym listed.2 in
        let is_earlier = earlier_row c i r listed.0 is_file_order i_lt_theorems listed.1
        is_citing_theorem.1 r_is_listed in
        let wave_of_cited_le = (are_waves.each_is_wave r is_earlier).1 m
        (subst (λ x. TheoremChain (HasCitation c) (IsCitingTheorem c) x m)
        (sym is_citing_theorem.2) chain_of_cited) in
        let wave_is_above_cited = wave_of_all.wave_is_above listed.0 r
        (subst (λ xs. listed.0 < length xs) (sym wave_of_all.cited_are_list) listed.1)
        is_citing_theorem.1
        (r_is_listed ∙ ap (λ xs. get_or xs listed.0 0) (sym wave_of_all.cited_are_list)) in
        omega (arith, wave_of_cited_le, wave_is_above_cited)

    no_longer_chain : (m : ℕ) → TheoremChain (HasCitation c) (IsCitingTheorem c) (theorem_at c i) m
        → m
        ≤ wave
    no_longer_chain zero chain = omega arith
    no_longer_chain (suc m) chain = chain_from_cited m chain.0 chain.1 chain.2 chain.3

pub no_waves : (c : Citing) → AreWaves c 0 []
no_waves c = omega arith

pub waves_with_one_more : (c : Citing) (n wave : ℕ) (waves : List ℕ) → AreWaves c n waves
    → IsLongestChain (HasCitation c) (IsCitingTheorem c) (theorem_at c n) wave → wave ≤ n
    → AreWaves c (n + 1) (waves ++ wave ∷ [])
waves_with_one_more c n wave waves are_waves is_wave wave_le_n =
    search (rules, arith, length-append, get_or_append_left, get_or_push)
