use Rattle.std.proofs.Common.{subst, ℕ, List, false}
use Rattle.mm_database.specs.DisjointIndex.{AreSkips, IsDisjointIndex, pair_lists}
use Rattle.mm_database.proofs.DisjointIndexLaw.{have_blocks}
use Rattle.mm_frame.proofs.disjoint_index.disjoint_index_of.Goals as goal

pub skips_of-requires : goal.skips_of-requires
skips_of-requires g c =
    record {
      all_have_blocks =
          rw (c.blocks-2.ensures.blocks_are, c.deref.ensures.value)
          (have_blocks c.args.statements.now.list _ c.blocks-2.ensures.are_blocks false
          c.in_ok-by_symbol.by_symbol.items c.in_ok-by_symbol.ensures.members_are);
    }

pub returns : goal.returns
returns g c =
    let b = c.args.statements.now.blocks in
    let ps = c.in_ok-by_symbol.by_symbol.items in
    let ss = c.in_ok-skips.skips.items in
    let rows = c.in_ok-rows.rows in
    let is_disjoint_index : IsDisjointIndex c.args.statements.now.list b (pair_lists ps ss rows) =
    record {
      members_are = c.in_ok-by_symbol.ensures.members_are;
      rows_are = λ x. (c.in_ok-rows.ensures x).1;
      well_formed = record {
        rising = c.in_ok-by_symbol.ensures.rising;
        known =
            have_blocks c.args.statements.now.list b c.blocks-2.ensures.are_blocks false ps
            c.in_ok-by_symbol.ensures.members_are;
        skips_are =
            subst (λ (ps : List (ℕ × ℕ)). AreSkips b ps ss) c.deref.ensures.value
            (rw (← c.blocks-2.ensures.blocks_are) c.in_ok-skips.ensures);
        are_rows = λ x. (c.in_ok-rows.ensures x).0;
      };
    } in
    rw c.new.ensures is_disjoint_index
