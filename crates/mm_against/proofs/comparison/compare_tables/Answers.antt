use Rattle.std.proofs.Common.{sym, subst}
use Rattle.mm_shifts.specs.Resting.{Resting, resting, side_in}
use Rattle.mm_against.specs.Found.{AreItsCitations}
use Rattle.mm_against.specs.Written.{WroteDifferences}
use Rattle.mm_against.proofs.WrittenLaw.{wrote_comparison}
use Rattle.mm_against.proofs.comparison.compare_tables.Goals as goal

pub compare_marked-requires : goal.compare_marked-requires
compare_marked-requires g c =
    let essential = c.args.request.now.essential in
    record {
      old_citations =
          subst (AreItsCitations essential) (sym c.in-Ok.ensures)
          c.requires.old_is_faultless.have_citations.cites_as_database.citations_agree;
      new_citations =
          subst (AreItsCitations essential) (sym c.in-Ok-new.ensures)
          c.requires.new_is_faultless.have_citations.cites_as_database.citations_agree;
    }

pub returns : goal.returns
returns g c =
    let end = c.compare_marked.result in
    let request = c.args.request.now in
    let before = g.W.Write.contents c.args.to.now in
    let after = g.W.Write.contents c.compare_marked.new.to in
    wrote_comparison end request c.args.old.0.now c.args.new.0.now c.args.old.1.now c.args.new.1.now
    before after c.requires.old_is_faultless c.requires.new_is_faultless
    (subst
    (λ (r : Resting). WroteDifferences end request (side_in r)
    (side_in (resting c.args.new.0.now c.args.new.1.now)) before after)
    c.in-Ok.ensures
    (subst
    (λ (r : Resting). WroteDifferences end request (side_in c.in-Ok.old_marked) (side_in r) before
    after)
    c.in-Ok-new.ensures c.compare_marked.ensures))
