use Rattle.std.proofs.Common.{Option, sym, subst, length}
use Rattle.mm_spec.specs.declared.Fault.{Fault}
use Rattle.mm_spec.specs.Output.{IsRead}
use Rattle.mm_outline.specs.Statements.{lexed, statements}
use Rattle.mm_stmt.proofs.ListedLaw.{words_are_within, words_are_told, few_words, few_bytes}
use Rattle.mm_stmt.proofs.ListedLaw.{first_are_within, all_are_within, few_are_found, few_are_named}
use Rattle.mm_stmt.proofs.listed.read_listed_alone.Goals as goal

pub outlines_of-requires-clause-are_tokens : goal.outlines_of-requires-clause-are_tokens
outlines_of-requires-clause-are_tokens g c =
    words_are_told c.args.text.now c.args.tokens.now c.requires.are_tokens

pub outlines_of-requires-clause-few_tokens : goal.outlines_of-requires-clause-few_tokens
outlines_of-requires-clause-few_tokens g c =
    few_words c.args.text.now c.args.tokens.now c.requires.are_tokens

pub numbers_of-requires-clause-tokens_within : goal.numbers_of-requires-clause-tokens_within
numbers_of-requires-clause-tokens_within g c =
    words_are_within c.args.text.now c.args.tokens.now c.requires.are_tokens

pub numbers_of-requires-clause-are_outlines : goal.numbers_of-requires-clause-are_outlines
numbers_of-requires-clause-are_outlines g c =
    rw c.as_slice-all.ensures.value
    (all_are_within c.args.text.now c.args.tokens.now c.requires.are_tokens
    c.in_ok-outlines.outlines.items c.in_ok-outlines.rest c.in_ok-outlines.ensures)

pub numbers_of-requires-clause-few_tokens : goal.numbers_of-requires-clause-few_tokens
numbers_of-requires-clause-few_tokens g c =
    few_words c.args.text.now c.args.tokens.now c.requires.are_tokens

pub numbers_of-requires-clause-few_outlines : goal.numbers_of-requires-clause-few_outlines
numbers_of-requires-clause-few_outlines g c =
    rw c.as_slice-all.ensures.value
    (few_are_found c.args.text.now c.args.tokens.now c.requires.are_tokens
    c.in_ok-outlines.outlines.items c.in_ok-outlines.rest c.in_ok-outlines.ensures)

pub numbers_of-requires-clause-few_names : goal.numbers_of-requires-clause-few_names
numbers_of-requires-clause-few_names g c =
    rw c.as_slice-all.ensures.value
    (few_are_named c.args.text.now c.args.tokens.now c.requires.are_tokens
    c.in_ok-outlines.outlines.items c.in_ok-outlines.rest c.in_ok-outlines.ensures)

pub read_outlines-requires-clause-tokens_within : goal.read_outlines-requires-clause-tokens_within
read_outlines-requires-clause-tokens_within g c =
    words_are_within c.args.text.now c.args.tokens.now c.requires.are_tokens

pub read_outlines-requires-clause-are_tokens : goal.read_outlines-requires-clause-are_tokens
read_outlines-requires-clause-are_tokens g c =
    words_are_told c.args.text.now c.args.tokens.now c.requires.are_tokens

pub read_outlines-requires-clause-few_tokens : goal.read_outlines-requires-clause-few_tokens
read_outlines-requires-clause-few_tokens g c =
    few_words c.args.text.now c.args.tokens.now c.requires.are_tokens

pub read_outlines-requires-clause-few_bytes : goal.read_outlines-requires-clause-few_bytes
read_outlines-requires-clause-few_bytes g c =
    few_bytes c.args.text.now c.args.fault c.requires.fault_is

pub read_outlines-requires-clause-are_found : goal.read_outlines-requires-clause-are_found
read_outlines-requires-clause-are_found g c =
    rw c.as_slice-all.ensures.value c.in_ok-outlines.ensures

pub read_outlines-requires-clause-are_numbers : goal.read_outlines-requires-clause-are_numbers
read_outlines-requires-clause-are_numbers g c =
    c.in_ok-numbers.ensures

pub list_outlined-requires-clause-tokens_within : goal.list_outlined-requires-clause-tokens_within
list_outlined-requires-clause-tokens_within g c =
    words_are_within c.args.text.now c.args.tokens.now c.requires.are_tokens

pub list_outlined-requires-clause-are_outlines : goal.list_outlined-requires-clause-are_outlines
list_outlined-requires-clause-are_outlines g c =
    rw c.deref.ensures.value
    (first_are_within c.args.text.now c.args.tokens.now c.requires.are_tokens
    c.in_ok-outlines.outlines.items c.in_ok-outlines.rest c.in_ok-outlines.ensures
    c.in_ok-outlined.outlined.outlines.items
    (rw (sym c.as_slice-all.ensures.value) c.in_ok-outlined.ensures.are_first))

pub returns : goal.returns
returns g c =
    let text = c.args.text.now in
    let ws = c.args.tokens.now in
    let d = c.in_ok-outlined.outlined in
    record {
      few_outlines = c.in_ok-outlined.ensures.few_outlines;
      are_outlines =
          first_are_within text ws c.requires.are_tokens c.in_ok-outlines.outlines.items
          c.in_ok-outlines.rest c.in_ok-outlines.ensures d.outlines.items
          (rw (sym c.as_slice-all.ensures.value) c.in_ok-outlined.ensures.are_first);
      is_read_so_far = c.in_ok-outlined.ensures.is_read_so_far;
      fault_is_read =
          subst (λ (fault : Option Fault). IsRead (length text) (lexed text ws fault)
          (statements text ws d.outlines.items) d.fault) c.requires.fault_is
          c.in_ok-outlined.ensures.fault_is_read;
      is_listed = rw (sym c.deref.ensures.value) c.in_ok-listed.ensures;
    }
