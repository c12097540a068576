use Rattle.interp.proofs.WordsKept.{entered_words, kept_words}
use Rattle.interp.proofs.laws.numbers_stay_words.Goals as goal

pub returns-clause-first : goal.returns-clause-first
returns-clause-first c = entered_words

pub returns-clause-next : goal.returns-clause-next
returns-clause-next c = kept_words
