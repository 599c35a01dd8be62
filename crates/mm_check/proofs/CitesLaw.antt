-- What a list of cited assertions says of the citations of a theorem.
use Rattle.std.proofs.Common.{◌≡◌, ℕ, true, false, ◌&&◌, List, sym, ◌∙◌, subst}
use Rattle.std.specs.Prelude.{Decides}
use Rattle.std.proofs.lemmas.Bool.{and_parts, and_from}
use Rattle.mm_spec.specs.Statement.{Statement}
use Rattle.mm_spec.specs.Derivation.{Trees, postfix, is_member}
use Rattle.mm_spec.specs.Laws.Complete.{AreComplete}
use Rattle.mm_spec.specs.Citation.{IsProof, Cites}
use Rattle.mm_spec.proofs.CitedLaw.{two_proofs_are_equal}
use Rattle.mm_spec.proofs.NodesLaw.{node_label_iff_member}
use Rattle.mm_rule.specs.Assertions.{is_assertion_at}

-- the assertions among the labels of the proof are what the theorem cites
pub labels_are_cited : (db : List Statement) (t : ℕ) (d : Trees) (cites : List ℕ) → AreComplete db
    → IsProof db t d
    → ((a : ℕ) → is_member cites a ≡ (is_member (postfix d) a && is_assertion_at db a)) → (a : ℕ)
    → Decides (is_member cites a) (Cites db false t a)
labels_are_cited db t d cites complete is_proof members_are a = (
  λ is_cited. let is_label_and_assertion =
      and_parts (is_member (postfix d) a) (is_assertion_at db a) (sym (members_are a) ∙ is_cited)
      in (
        is_label_and_assertion.1,
        d,
        is_proof,
        (node_label_iff_member db d a).1
            is_label_and_assertion.0,
      ),
  λ cites_a. members_are a
      ∙ and_from (is_member (postfix d) a) (is_assertion_at db a) (subst (λ d'. is_member
      (postfix d') a ≡ true) (two_proofs_are_equal db complete t cites_a.1 d cites_a.2 is_proof)
      ((node_label_iff_member db cites_a.1 a).0 cites_a.3)) cites_a.0,
)
