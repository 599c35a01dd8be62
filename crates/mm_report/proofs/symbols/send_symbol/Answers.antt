use Rattle.mm_report.proofs.symbols.send_symbol.Goals as goal

pub returns : goal.returns
returns g c = rw c.name.ensures c.send_spaced.ensures
