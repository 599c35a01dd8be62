-- From marks by the citations that were found to chains of citations by the definitions.
use Rattle.std.proofs.Common.{◌≡◌, ℕ, suc, ◌<◌, List, [], ◌∷◌, length, map, get_or, refl, sym}
use Rattle.std.proofs.Common.{ap₂, subst, arith, ◌↔◌, Option, Bool}
use Rattle.std.specs.List.{AllZip}
use Rattle.std.proofs.lemmas.List.{get_or-map}
use Rattle.std.proofs.lemmas.List.FromFn.{get_or-map-range_with_len, length-map-range_with_len}
use Rattle.mm_spec.specs.Text.{Bytes}
use Rattle.mm_spec.specs.Citation as proof
use Rattle.mm_spec.specs.Request.{Request}
use Rattle.mm_spec.specs.Report.{CitingRow}
use Rattle.mm_spec.specs.Assertion.{label_at}
use Rattle.mm_spec.specs.Output.{theorems}
use Rattle.mm_spec.proofs.ChainsLaw.{alike_relations_have_alike_chains}
use Rattle.mm_cites.specs.Citing.{HasCitation}
use Rattle.mm_spec.specs.Comparison.{Side, AreShifted, IsShiftRowOf}
use Rattle.mm_spec.specs.Comparison.{AreShiftLines, differences}
use Rattle.mm_shifts.specs.Resting.{Resting, Rests, side_in}
use Rattle.mm_shifts.specs.Shifted.{AreAllShifted}
use Rattle.mm_report.specs.Differences.{shift_row, shift_rows, shift_lines, lines_of}
use Rattle.mm_against.specs.Found.{AreItsCitations, FoundAreDifferences}

-- what is shifted by relations is shifted by relations that hold of the same
shifted_alike : {P Q R S : ℕ → ℕ → Type 0} → ((t a : ℕ) → P t a ↔ Q t a)
    → ((t a : ℕ) → R t a ↔ S t a) → (only : Option Bytes) (s t : Side) (n : ℕ) (list : List ℕ)
    → AreShifted P R only s t n list → AreShifted Q S only s t n list
shifted_alike alike there_alike only s t n list shifted = record {
  rising = shifted.rising;
  shifted = λ a. (
    λ is_one. let holds = (shifted.shifted a).0 is_one in (
      holds.0,
      (alike n a).0 holds.1,
      λ (m, b, is_theorem, has_label, is_same, rests).
          holds.2 (m, b, is_theorem, has_label, is_same, (there_alike m b).1 rests),
    ),
    λ holds. (shifted.shifted a).1 (
      holds.0,
      (alike n a).1 holds.1,
      λ (m, b, is_theorem, has_label, is_same, rests).
          holds.2 (m, b, is_theorem, has_label, is_same, (there_alike m b).0 rests),
    ),
  );
}

zip_by_index : {A B : Type 0} (R : A → B → Type 0) (xs : List A) (ys : List B) (d : A) (e : B)
    → length xs ≡ length ys → ((i : ℕ) → i < length xs → R (get_or xs i d) (get_or ys i e))
    → AllZip R xs ys
zip_by_index R [] [] d e lengths_equal each_related = tt
zip_by_index R [] (y ∷ ys) d e lengths_equal each_related = absurd (omega (arith, lengths_equal))
zip_by_index R (x ∷ xs) [] d e lengths_equal each_related = absurd (omega (arith, lengths_equal))
zip_by_index R (x ∷ xs) (y ∷ ys) d e lengths_equal each_related = (
  each_related 0 (omega arith),
  zip_by_index R xs ys d e (omega (arith, lengths_equal)) (λ i
      i_lt_length. each_related (suc i) (omega arith)),
)

rests_alike : (by_essential : Bool) (r : Resting) → AreItsCitations by_essential r → (t a : ℕ)
    → Rests r t a ↔ proof.RestsOn r.contents.statements by_essential t a
rests_alike by_essential r are_citations =
    alike_relations_have_alike_chains (HasCitation r.citing)
    (proof.Cites r.contents.statements by_essential) are_citations

module _ (request : Request) (r other : Resting)
    (are_citations : AreItsCitations request.essential r)
    (are_there : AreItsCitations request.essential other) (lists : List (List ℕ))
    (are_shifted : AreAllShifted r other request.only (theorems r.contents.statements) lists) where
  shift_lines_are : AreShiftLines request (side_in r) (side_in other) (shift_lines r.contents lists)
  shift_lines_are =
      let db = r.contents.statements in
      let names = map (label_at db) (theorems db) in
      let f = shift_row db lists names in
      let count_is = are_shifted.count_is in
      let row_count_is = length-map-range_with_len f 0 (length lists) in
      record {
        rows = shift_rows db lists names;
        are_rows =
            zip_by_index (IsShiftRowOf request (side_in r) (side_in other)) (theorems db)
            (shift_rows db lists names) 0 (f 0) (omega (arith, row_count_is, count_is))
            (λ i i_lt_length.
            subst (λ (x : CitingRow). IsShiftRowOf request (side_in r) (side_in other)
            (get_or (theorems db) i 0) x)
            (sym (get_or-map-range_with_len f 0 (length lists) i i (f 0)
            (omega (arith, count_is, i_lt_length)) (omega arith))) (
              get_or-map (label_at db) (theorems db) i 0 [] i_lt_length,
              (
                get_or lists i [],
                shifted_alike (rests_alike request.essential r are_citations)
                    (rests_alike request.essential other are_there) request.only (side_in r)
                    (side_in other) (get_or (theorems db) i 0) (get_or lists i [])
                    (are_shifted.each_is_shifted i i_lt_length),
                refl,
              ),
            ));
        bytes_are = refl;
      }

pub found_are_differences : FoundAreDifferences
found_are_differences request old new new_own gone gained lost found_new found_old = (
  shift_lines new.contents gained,
  shift_lines old.contents lost,
  shift_lines_are request new old found_new.are_citations found_old.are_citations gained
      found_new.are_shifted,
  shift_lines_are request old new found_old.are_citations found_new.are_citations lost
      found_old.are_shifted,
  ap₂ (λ (n : List ℕ) (g : List ℕ). differences (lines_of new.contents n)
      (lines_of old.contents g) (shift_lines new.contents gained)
      (shift_lines old.contents lost)) found_new.own_is found_old.own_is,
)
