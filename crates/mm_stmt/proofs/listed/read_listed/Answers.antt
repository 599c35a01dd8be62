use Rattle.std.proofs.Common.{◌≡◌, ◌∙◌, Option, sym, subst, length, take, rules, arith}
use Rattle.std.proofs.lemmas.List.{take_all}
use Rattle.mm_stmt.specs.Listed.{IsListed, IsReadOf}
use Rattle.mm_spec.specs.declared.Fault.{Fault}
use Rattle.mm_spec.specs.Output.{IsRead}
use Rattle.mm_outline.specs.Statements.{lexed, statements}
use Rattle.mm_stmt.proofs.ListedLaw.{words_are_within, words_are_told, words_rise, few_words}
use Rattle.mm_stmt.proofs.ListedLaw.{few_bytes}
use Rattle.mm_stmt.proofs.ListedLaw.{first_are_within, all_are_within, few_are_found, few_are_named}
use Rattle.mm_stmt.proofs.listed.read_listed.Goals as goal
use Rattle.mm_stmt.proofs.listed.read_listed.Goals.{then-len-all+in_ok-listed}
use Rattle.mm_stmt.proofs.listed.read_listed.Goals.{else-len-all+in_ok-listed-2}

pub outlines_in_stretches-requires-clause-are_tokens :
    goal.outlines_in_stretches-requires-clause-are_tokens
outlines_in_stretches-requires-clause-are_tokens g c κs bounds =
    words_are_told c.args.text.now c.args.tokens.now c.requires.are_tokens

pub outlines_in_stretches-requires-clause-tokens_rise :
    goal.outlines_in_stretches-requires-clause-tokens_rise
outlines_in_stretches-requires-clause-tokens_rise g c κs bounds =
    words_rise c.args.text.now c.args.tokens.now c.requires.are_tokens

pub outlines_in_stretches-requires-clause-few_tokens :
    goal.outlines_in_stretches-requires-clause-few_tokens
outlines_in_stretches-requires-clause-few_tokens g c κs bounds =
    few_words c.args.text.now c.args.tokens.now c.requires.are_tokens

pub numbers_in_stretches-requires-clause-tokens_within :
    goal.numbers_in_stretches-requires-clause-tokens_within
numbers_in_stretches-requires-clause-tokens_within g c κs bounds =
    words_are_within c.args.text.now c.args.tokens.now c.requires.are_tokens

pub numbers_in_stretches-requires-clause-are_outlines :
    goal.numbers_in_stretches-requires-clause-are_outlines
numbers_in_stretches-requires-clause-are_outlines g c κs bounds =
    rw c.as_slice-all.ensures.value
    (all_are_within c.args.text.now c.args.tokens.now c.requires.are_tokens
    c.in_ok-outlines.outlines.items c.in_ok-outlines.rest c.in_ok-outlines.ensures)

pub numbers_in_stretches-requires-clause-few_tokens :
    goal.numbers_in_stretches-requires-clause-few_tokens
numbers_in_stretches-requires-clause-few_tokens g c κs bounds =
    few_words c.args.text.now c.args.tokens.now c.requires.are_tokens

pub numbers_in_stretches-requires-clause-few_outlines :
    goal.numbers_in_stretches-requires-clause-few_outlines
numbers_in_stretches-requires-clause-few_outlines g c κs bounds =
    rw c.as_slice-all.ensures.value
    (few_are_found c.args.text.now c.args.tokens.now c.requires.are_tokens
    c.in_ok-outlines.outlines.items c.in_ok-outlines.rest c.in_ok-outlines.ensures)

pub numbers_in_stretches-requires-clause-few_names :
    goal.numbers_in_stretches-requires-clause-few_names
numbers_in_stretches-requires-clause-few_names g c κs bounds =
    rw c.as_slice-all.ensures.value
    (few_are_named c.args.text.now c.args.tokens.now c.requires.are_tokens
    c.in_ok-outlines.outlines.items c.in_ok-outlines.rest c.in_ok-outlines.ensures)

pub join-listed-requires-after_bounds : goal.join-listed-requires-after_bounds
join-listed-requires-after_bounds g c lives bounds =
    let text = c.args.text.now in
    let ws = c.args.tokens.now in
    let words_are_tokens = c.requires.are_tokens in
    let all_are = c.as_slice-all.ensures.value in
    let os = c.in_ok-outlines.outlines.items in
    let rest = c.in_ok-outlines.rest in (
      record {
        words_are_within = words_are_within text ws words_are_tokens;
        are_outlines =
            rw all_are (all_are_within text ws words_are_tokens os rest c.in_ok-outlines.ensures);
        few_outlines =
            rw all_are (few_are_found text ws words_are_tokens os rest c.in_ok-outlines.ensures);
      },
      record {
        words_are_within = words_are_within text ws words_are_tokens;
        are_tokens = words_are_told text ws words_are_tokens;
        few_tokens = few_words text ws words_are_tokens;
        few_bytes = few_bytes text c.args.fault c.requires.fault_is;
        are_found = rw all_are c.in_ok-outlines.ensures;
        are_numbers = c.in_ok-numbers.ensures;
      },
    )

pub list_outlined-requires-clause-tokens_within : goal.list_outlined-requires-clause-tokens_within
list_outlined-requires-clause-tokens_within g c =
    words_are_within c.args.text.now c.args.tokens.now c.requires.are_tokens

pub list_outlined-requires-clause-are_outlines : goal.list_outlined-requires-clause-are_outlines
list_outlined-requires-clause-are_outlines g c =
    let text = c.args.text.now in
    let ws = c.args.tokens.now in
    let os = c.in_ok-outlines.outlines.items in
    let first = c.in_ok-outlined.outlined.outlines.items in
    let read : IsReadOf text ws c.args.fault c.as_slice-all.result.now c.in_ok-outlined.outlined =
    search rules in
    rw c.deref.ensures.value
    (first_are_within text ws c.requires.are_tokens os c.in_ok-outlines.rest
    c.in_ok-outlines.ensures first (rw (sym c.as_slice-all.ensures.value) read.are_first))

pub returns : goal.returns
returns g c =
    let text = c.args.text.now in
    let ws = c.args.tokens.now in
    let d = c.in_ok-outlined.outlined in
    let os = c.in_ok-outlines.outlines.items in
    let read : IsReadOf text ws c.args.fault c.as_slice-all.result.now d = search rules in
    let first = d.outlines.items in
    let are_first : first ≡ take (length first) os =
    rw (sym c.as_slice-all.ensures.value) read.are_first in
    record {
      few_outlines = read.few_outlines;
      are_outlines =
          first_are_within text ws c.requires.are_tokens os c.in_ok-outlines.rest
          c.in_ok-outlines.ensures first are_first;
      is_read_so_far = read.is_read_so_far;
      fault_is_read =
          subst (λ (fault : Option Fault). IsRead (length text) (lexed text ws fault)
          (statements text ws first) d.fault) c.requires.fault_is read.fault_is_read;
      is_listed = elim c.if-len-all.branch [
        | then-len-all+in_ok-listed w ↦
            let listed : IsListed text ws c.as_slice-all.result.now c.args.with_open
            w.in_ok-listed.listed = search rules in
            let all_are_first : first ≡ os =
            are_first ∙ take_all (length first) os (omega (
              arith,
              w.if-len-all.true,
              c.len.ensures,
              c.as_slice-all.ensures.value,
            )) in
            subst (IsListed text ws first c.args.with_open) (sym w.listed2-is)
            (rw (all_are_first, sym c.as_slice-all.ensures.value) listed)
        | else-len-all+in_ok-listed-2 w ↦
            subst (IsListed text ws first c.args.with_open) (sym w.listed2-is)
            (rw (sym w.deref.ensures.value) w.in_ok-listed-2.ensures)
      ];
    }
