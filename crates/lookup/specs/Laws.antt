-- What holds of both lookups, over every storage.
use Rattle.std.specs.Prelude.{◌≡◌, ℕ, Option}
use Rattle.arch.specs.Walks.{SeesOnlyItsTrace, over}
use Rattle.arch.proofs.Walks.{over_local}
use Rattle.lookup.specs.declared.access.AccessKey.{AccessKey}
use Rattle.lookup.specs.declared.page.PageKey.{PageKey}
use Rattle.lookup.specs.Access.{access_limit, access_walk}
use Rattle.lookup.specs.Lookups.{access_fresh, page_fresh}
use Rattle.lookup.specs.Pages.{page_limit, page_walk}

pub access_walks : (word : ℕ → Option ℕ) (k : AccessKey) → access_fresh word k ≡ over access_limit word (access_walk k)
unfolding access_fresh
access_walks word k = cc

pub access_sees_only_its_trace : (k : AccessKey) → SeesOnlyItsTrace (λ word. access_fresh word k)
unfolding access_fresh
access_sees_only_its_trace k = over_local access_limit (access_walk k)

pub page_walks : (word : ℕ → Option ℕ) (k : PageKey) → page_fresh word k ≡ over page_limit word (page_walk k)
unfolding page_fresh
page_walks word k = cc

pub page_sees_only_its_trace : (k : PageKey) → SeesOnlyItsTrace (λ word. page_fresh word k)
unfolding page_fresh
page_sees_only_its_trace k = over_local page_limit (page_walk k)
