use Rattle.std.proofs.Common.{map, take}
use Rattle.mm_lists.specs.Lists.{AreJoined}
use Rattle.mm_database.specs.RetainedWords.{retained_words}
use Rattle.mm_stmt.proofs.retained_words.retain_all_words.Given as goal

abbrev pub invariant-loop-outline : goal.invariant-loop-outline
invariant-loop-outline g l =
    AreJoined (map (retained_words l.tokens) (take l.outline-index l.outlines)) l.words.items
    l.ends.items
