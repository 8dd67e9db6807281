-- No two conditions have the same code.
use Rattle.std.proofs.Common.{◌≡◌, ℕ, Bool, ◌&&◌, true, false, cond, List, [], ◌∷◌, sym, refl, ap, ◌∙◌, nat_eq}
use Rattle.arch.specs.declared.condition.Condition.{Condition}
use Rattle.arch.specs.declared.condition.Condition.TheVariants.{BadNumber, BadPrefix, Unaligned, ShortList, AletSpecification, Addressing, AlenTranslation, AleSequence, AsteValidity, AsteSequence, ExtendedAuthority, LowAddress, AsceType, RegionFirst, RegionSecond, RegionThird, Segment, TranslationSpecification, PageTranslation, AccessList, Page, Key, TooMuch, BadText}
use Rattle.arch.specs.Conditions.{code_of}

abbrev same : List ℕ → List ℕ → Bool
same [] [] = true
same [] (y ∷ ys) = false
same (x ∷ xs) [] = false
same (x ∷ xs) (y ∷ ys) = nat_eq x y && same xs ys

abbrev all : List Condition
all = BadNumber ∷ BadPrefix ∷ Unaligned ∷ ShortList ∷ AletSpecification ∷ Addressing ∷ AlenTranslation ∷ AleSequence ∷ AsteValidity ∷ AsteSequence ∷ ExtendedAuthority ∷ LowAddress ∷ AsceType ∷ RegionFirst ∷ RegionSecond ∷ RegionThird ∷ Segment ∷ TranslationSpecification ∷ PageTranslation ∷ AccessList ∷ Page ∷ Key ∷ TooMuch ∷ BadText ∷ []

-- the first condition with this code, where there is one
abbrev met : List Condition → List ℕ → Condition
met [] code = BadText
met (c ∷ cs) code = cond (same (code_of c) code) c (met cs code)

-- the code gives its condition back
met_code : (c : Condition) → met all (code_of c) ≡ c
met_code BadNumber = refl
met_code BadPrefix = refl
met_code Unaligned = refl
met_code ShortList = refl
met_code AletSpecification = refl
met_code Addressing = refl
met_code AlenTranslation = refl
met_code AleSequence = refl
met_code AsteValidity = refl
met_code AsteSequence = refl
met_code ExtendedAuthority = refl
met_code LowAddress = refl
met_code AsceType = refl
met_code RegionFirst = refl
met_code RegionSecond = refl
met_code RegionThird = refl
met_code Segment = refl
met_code TranslationSpecification = refl
met_code PageTranslation = refl
met_code AccessList = refl
met_code Page = refl
met_code Key = refl
met_code TooMuch = refl
met_code BadText = refl

pub code_tells : (c d : Condition) → code_of c ≡ code_of d → c ≡ d
code_tells c d same_code = sym (met_code c) ∙ ap (met all) same_code ∙ met_code d
