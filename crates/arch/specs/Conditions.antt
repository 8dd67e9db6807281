-- Each condition by its code and its printed name.
use Rattle.std.specs.Prelude.{ℕ, List, ◌++◌, codes}
use Rattle.arch.specs.declared.condition.Condition.{Condition}
use Rattle.arch.specs.declared.condition.Condition.TheVariants.{BadNumber, BadPrefix, Unaligned, ShortList, AletSpecification, Addressing, AlenTranslation, AleSequence, AsteValidity, AsteSequence, ExtendedAuthority, LowAddress, AsceType, RegionFirst, RegionSecond, RegionThird, Segment, TranslationSpecification, PageTranslation, AccessList, Page, Key, TooMuch, BadText}

abbrev pub code_of : Condition → List ℕ
code_of BadNumber = codes "201"
code_of BadPrefix = codes "202"
code_of Unaligned = codes "203"
code_of ShortList = codes "204"
code_of AletSpecification = codes "28"
code_of Addressing = codes "5"
code_of AlenTranslation = codes "29"
code_of AleSequence = codes "2a"
code_of AsteValidity = codes "2b"
code_of AsteSequence = codes "2c"
code_of ExtendedAuthority = codes "2d"
code_of LowAddress = codes "4L"
code_of AsceType = codes "38"
code_of RegionFirst = codes "39"
code_of RegionSecond = codes "3a"
code_of RegionThird = codes "3b"
code_of Segment = codes "10"
code_of TranslationSpecification = codes "12"
code_of PageTranslation = codes "11"
code_of AccessList = codes "4A"
code_of Page = codes "4P"
code_of Key = codes "4K"
code_of TooMuch = codes "206"
code_of BadText = codes "205"

abbrev pub name_of : Condition → List ℕ
name_of BadNumber = codes "bad-number"
name_of BadPrefix = codes "bad-prefix"
name_of Unaligned = codes "unaligned"
name_of ShortList = codes "short-list"
name_of AletSpecification = codes "ALET-specification"
name_of Addressing = codes "addressing"
name_of AlenTranslation = codes "ALEN-translation"
name_of AleSequence = codes "ALE-sequence"
name_of AsteValidity = codes "ASTE-validity"
name_of AsteSequence = codes "ASTE-sequence"
name_of ExtendedAuthority = codes "extended-authority"
name_of LowAddress = codes "low-address"
name_of AsceType = codes "ASCE-type"
name_of RegionFirst = codes "region-first"
name_of RegionSecond = codes "region-second"
name_of RegionThird = codes "region-third"
name_of Segment = codes "segment"
name_of TranslationSpecification = codes "translation-specification"
name_of PageTranslation = codes "page-translation"
name_of AccessList = codes "access-list"
name_of Page = codes "page"
name_of Key = codes "key"
name_of TooMuch = codes "too-much"
name_of BadText = codes "bad-text"

-- the code, a tab, the name
abbrev pub code_and_name : Condition → List ℕ
code_and_name c = code_of c ++ (codes "\t" ++ name_of c)
