-- The numbers by which users know the codes of faults (this project's own). Among the faults of a
-- statement at the same place, the lowest number decides.
use Rattle.std.specs.Prelude.{ℕ}
use Rattle.mm_spec.specs.declared.Code.{Code}
use Rattle.mm_spec.specs.declared.Code.TheVariants as code

abbrev pub code_number : Code → ℕ
code_number code.TextTooLong = 0
code_number code.BadByte = 1
code_number code.MarkInComment = 2
code_number code.OpenComment = 3
code_number code.StrayDollar = 4
code_number code.Inclusion = 5
code_number code.BadLabel = 6
code_number code.UnexpectedToken = 7
code_number code.OpenStatement = 8
code_number code.UnopenedBlock = 9
code_number code.OpenBlock = 10
code_number code.ConstantInBlock = 11
code_number code.EmptyDeclaration = 12
code_number code.DeclaredBefore = 13
code_number code.LabelIsSymbol = 14
code_number code.LabelUsedBefore = 15
code_number code.BadTypecode = 17
code_number code.UndeclaredSymbol = 18
code_number code.BadFloating = 19
code_number code.TypedBefore = 20
code_number code.OtherTypecode = 21
code_number code.UntypedVariable = 22
code_number code.TooFewVariables = 23
code_number code.UndeclaredVariable = 24
code_number code.RepeatedVariable = 25
code_number code.EmptyProof = 31
code_number code.IncompleteProof = 32
code_number code.UnusableLabel = 33
code_number code.TooFewEntries = 34
code_number code.UnmatchedHypotheses = 35
code_number code.NotDisjoint = 36
code_number code.NotOneEntry = 37
code_number code.OtherFormula = 38
code_number code.FormulaTooLong = 39
code_number code.OpenBrackets = 41
code_number code.BadLetter = 42
code_number code.OpenNumber = 43
code_number code.MarkBeforeStep = 44
code_number code.NumberTooLarge = 45
