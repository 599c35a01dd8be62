use Rattle.std.proofs.Common.{◌≡◌, List, ℕ, drop, rules, subst, sym}
use Rattle.mm_library.specs.Calls.{WritingEnds, comparison_of}
use Rattle.mm_library.specs.declared.status.Status.{Status}
use Rattle.mm_library.proofs.CallLaw.{writing_ends, has_output}
use Rattle.mm_library.proofs.comparison.write_to_front.Goals as goal

pub returns-in-Ok : goal.returns-in-Ok
returns-in-Ok g c =
    let request = c.args.request.now in
    let asked = comparison_of c.args.old_text.now c.args.new_text.now in
    let front = c.write_output.new.to in
    let written = c.in-Ok.ensures.appends_output in
    let rest_stays : drop front.len front.out.now ≡ drop front.len c.args.out.now =
    subst (λ (bs : List ℕ). drop front.len front.out.now ≡ drop front.len bs)
    {x = front.before.bytes} (search rules) front.rest_stays in
    let ends_with : Status → List ℕ → Type 0 =
    λ s out. WritingEnds s request asked front.len c.args.out.now out in
    subst (λ (out : List ℕ). ends_with c.status.result out) {x = front.out.now} (search rules)
    (subst (λ (s : Status). ends_with s front.out.now) (sym c.status.ensures)
    (writing_ends c.in-Ok.verdict request asked front.len c.args.out.now front.out.now written.0
    (has_output request asked c.args.out.now front.out.now written.1.0 front.written.bytes front.len
    written.1.1 (search rules) front.len_is front.is_at_front rest_stays)))
