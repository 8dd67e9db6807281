-- Worked cases of every layout that the two lookups look at.
use Rattle.lookup.specs.AccessLayouts.{TokenLayout, DesignationLayout, EntryLayout, SecondLayout, AsteLayout, AuthorityLayout, AccessLimits}
use Rattle.lookup.specs.PageLayouts.{ElementLayout, RegionLayout, TableTypes, SegmentLayout, PageLayout, Indexes, TableBounds, PageLimits}
use Rattle.lookup.specs.Zeros.{BitNumbers}

pub record WorkedLayouts : Type 0 where
  pub bit_numbers : BitNumbers
  -- of the access-register lookup
  pub token : TokenLayout
  pub designation : DesignationLayout
  pub entry : EntryLayout
  pub second : SecondLayout
  pub aste : AsteLayout
  pub authority : AuthorityLayout
  pub access_limits : AccessLimits
  -- of the page lookup
  pub element : ElementLayout
  pub region : RegionLayout
  pub types : TableTypes
  pub segment : SegmentLayout
  pub page : PageLayout
  pub indexes : Indexes
  pub bounds : TableBounds
  pub page_limits : PageLimits
