-- How the two kinds of lookup spell keys and answers in two words.
use Rattle.std.specs.Prelude.{◌+◌, ◌*◌, ◌^◌, cond, ◌==◌}
use Rattle.lookup.specs.declared.access.AccessKey.{AccessKey}
use Rattle.lookup.specs.declared.access.AccessAnswer.{AccessAnswer}
use Rattle.lookup.specs.declared.page.PageKey.{PageKey}
use Rattle.lookup.specs.declared.page.PageAnswer.{PageAnswer}
use Rattle.lookup.specs.declared.words.Words.{Words}

-- the index and the token in one word, the address of the designation in the other
abbrev pub access_key_words : AccessKey → Words
access_key_words k = record { first = k.eax * 2 ^ 32 + k.alet; second = k.designation }

abbrev pub access_answer_words : AccessAnswer → Words
access_answer_words a = record { first = a.asce; second = cond a.fetch_only 1 0 }

abbrev pub access_answer_of : Words → AccessAnswer
access_answer_of w = record { asce = w.first; fetch_only = (w.second == 1) }

abbrev pub page_key_words : PageKey → Words
page_key_words k = record { first = k.asce; second = k.page }

abbrev pub page_answer_words : PageAnswer → Words
page_answer_words a = record { first = a.frame; second = cond a.protect 1 0 }

abbrev pub page_answer_of : Words → PageAnswer
page_answer_of w = record { frame = w.first; protect = (w.second == 1) }

-- a page key has no number that its words could cut
abbrev pub PageFits : PageKey → Type 0
PageFits k = Unit {0}
