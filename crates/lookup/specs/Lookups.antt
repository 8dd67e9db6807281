-- The two lookups over the doublewords of a storage: walked afresh, and as a source gives them.
use Rattle.std.specs.Prelude.{ℕ, Option}
use Rattle.arch.specs.Walks.{Traced, over}
use Rattle.lookup.specs.declared.access.AccessKey.{AccessKey}
use Rattle.lookup.specs.declared.access.AccessAnswer.{AccessAnswer}
use Rattle.lookup.specs.declared.page.PageKey.{PageKey}
use Rattle.lookup.specs.declared.page.PageAnswer.{PageAnswer}
use Rattle.lookup.specs.Access.{access_limit, access_walk}
use Rattle.lookup.specs.Pages.{page_limit, page_walk}
use Rattle.lookup.specs.Sources.{asked}

unfoldable pub access_fresh : (ℕ → Option ℕ) → AccessKey → Traced AccessAnswer
access_fresh word k = over access_limit word (access_walk k)

unfoldable pub page_fresh : (ℕ → Option ℕ) → PageKey → Traced PageAnswer
page_fresh word k = over page_limit word (page_walk k)

abbrev pub access_asks : (AccessKey → Option AccessAnswer) → (ℕ → Option ℕ) → AccessKey → Traced AccessAnswer
access_asks shows word k = asked (shows k) (access_fresh word k)

abbrev pub page_asks : (PageKey → Option PageAnswer) → (ℕ → Option ℕ) → PageKey → Traced PageAnswer
page_asks shows word k = asked (shows k) (page_fresh word k)
