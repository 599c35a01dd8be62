use Rattle.mm_database.specs.Names.{names_of}
use Rattle.mm_database.proofs.GuessesLaw.{guessed_with_one_more}
use Rattle.mm_database.proofs.name_map.add_guess.Goals as goal

pub returns-then-index-len : goal.returns-then-index-len
returns-then-index-len g c =
    guessed_with_one_more (names_of c.args.entries.now.entries) c.args.guesses.now.items
    c.set_guess.new.guesses.items c.args.index c.args.word.now.bytes.now c.requires.is_name
    c.requires.others_are_guessed c.set_guess.ensures.others_stay c.set_guess.ensures.is_guessed
