use Rattle.std.proofs.Common.{length, ◌<◌, ◌^◌}
use Rattle.mm_spec.specs.Output.{theorems}
use Rattle.mm_spec.specs.Comparison.{AreDifferences, differences}
use Rattle.mm_shifts.specs.Resting.{side_in}
use Rattle.mm_report.specs.Differences.{lines_of, shift_lines}
use Rattle.mm_against.proofs.ListsLaw.{lists_may_be_written, on_ok, on_err}
use Rattle.mm_against.proofs.FoundLaw.{found_are_differences}
use Rattle.mm_against.proofs.write.write_found.Goals as goal

pub write_differences-requires : goal.write_differences-requires
write_differences-requires g c =
    let old = c.args.old.now in
    let new = c.args.new.now in
    let few_new : length (theorems new.contents.statements) < 2 ^ 31 =
    rw c.theorems.ensures.theorems_are at c.theorems.ensures.theorems_rise.count_lt_2_31 in
    let few_old : length (theorems old.contents.statements) < 2 ^ 31 =
    rw c.theorems-2.ensures.theorems_are at c.theorems-2.ensures.theorems_rise.count_lt_2_31 in
    record {
      new_is_difference = rw (c.database.ensures, c.deref.ensures.value)
          (lists_may_be_written new old c.args.request.now.only c.args.added.now.own.items
          c.args.added.now.dummy_lists c.args.added.now.shifts few_new c.requires.added_is_found);
      old_is_difference = rw (c.database-2.ensures, c.deref-2.ensures.value)
          (lists_may_be_written old new c.args.request.now.only c.args.gone.now.own.items
          c.args.gone.now.dummy_lists c.args.gone.now.shifts few_old c.requires.gone_is_found);
    }

pub returns : goal.returns
returns g c =
    let old = c.args.old.now in
    let new = c.args.new.now in
    let request = c.args.request.now in
    let added = c.args.added.now in
    let gone = c.args.gone.now in
    let bytes =
    differences (lines_of new.contents added.own.items) (lines_of old.contents gone.own.items)
    (shift_lines new.contents added.shifts) (shift_lines old.contents gone.shifts) in
    let are_differences : AreDifferences request (side_in old) (side_in new) bytes =
    found_are_differences request old new added.own.items gone.own.items added.shifts gone.shifts
    (record {
      are_citations = c.requires.new_citations;
      own_is = c.requires.added_is_found.own_is;
      are_shifted = c.requires.added_is_found.are_shifted;
    })
    (record {
      are_citations = c.requires.old_citations;
      own_is = c.requires.gone_is_found.own_is;
      are_shifted = c.requires.gone_is_found.are_shifted;
    }) in
    let written =
    rw (c.database.ensures, c.deref.ensures.value, c.database-2.ensures, c.deref-2.ensures.value)
    at c.write_differences.ensures.differences_are_written in
    let prefix =
    rw (c.database.ensures, c.deref.ensures.value, c.database-2.ensures, c.deref-2.ensures.value)
    at c.write_differences.ensures.prefix_is_written in
    record {
      differences_are_written = on_ok c.write_differences.result
          (λ appended. (bytes, are_differences, appended)) written;
      prefix_is_written = on_err c.write_differences.result
          (λ appended. (bytes, appended.0, are_differences, appended.1)) prefix;
    }
