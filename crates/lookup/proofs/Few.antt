-- An access-register lookup fetches at most seven doublewords, a page lookup at most five.
use Rattle.std.proofs.Common.{◌≡◌, ℕ, length, Option, zero, suc, ◌+◌, ◌≤◌, Bool, true, false, cond, not, ◌||◌, eqb, subst, arith}
use Rattle.arch.specs.Bits.{bits, bit}
use Rattle.arch.specs.declared.condition.Condition.TheVariants.{AlenTranslation, AleSequence, TranslationSpecification, PageTranslation}
use Rattle.arch.specs.Walks.{answers}
use Rattle.arch.proofs.Walks.{Few, few_answer, few_last_check, few_then, few_check, few_read}
use Rattle.lookup.specs.declared.access.AccessKey.{AccessKey}
use Rattle.lookup.specs.declared.page.PageKey.{PageKey}
use Rattle.lookup.specs.declared.page.Table.{Table}
use Rattle.lookup.specs.Access.{access_limit, token_bits, locate, entry_first, entry, aste_first, aste_sequence, aste, secondary, asks_authority, authorized, access_walk}
use Rattle.lookup.specs.Lookups.{access_fresh, page_fresh}
use Rattle.lookup.specs.Pages.{page_limit, level_condition, table_below, table_of, valid_entry, table_entry, page_entry, descend, first_level, through_tables, page_walk}

module _ (k : AccessKey) where
  locate_few : Few access_limit 1 (locate k)
  locate_few = few_check _ _ (few_read _ _ (λ v. few_check _ _ few_answer))

  entry_first_few : (at : ℕ) → Few access_limit 1 (entry_first k at)
  entry_first_few at = few_read at _ (λ v. few_check AlenTranslation (bit 0 v) (few_check AleSequence (not (eqb (token_bits 8 15 k) (bits 8 15 v))) (few_answer {a = v})))

  entry_few : (at : ℕ) → Few access_limit 2 (entry k at)
  entry_few at = few_then (entry_first_few at) (λ first. few_read _ _ (λ v. few_answer))

  aste_first_few : (second : ℕ) → Few access_limit 1 (aste_first second)
  aste_first_few second = few_read _ _ (λ v. few_check _ _ few_answer)

  sequence_few : (second : ℕ) → Few access_limit 1 (aste_sequence second)
  sequence_few second = few_read _ _ (λ v. few_last_check _ _)

  aste_few : (second : ℕ) → Few access_limit 2 (aste second)
  aste_few second = few_then (aste_first_few second) (λ first. few_then (sequence_few second) (λ _. few_answer))

  authorized_few : (first second : ℕ) → Few access_limit 1 (authorized k first second)
  authorized_few first second = by (asks_authority k first)
    where
      by : (t : Bool) → Few access_limit 1 (cond t (secondary k.eax second) (answers tt))
      by true = few_check _ _ (few_read _ _ (λ v. few_last_check _ _))
      by false = record { few = λ word. omega arith }

  pub access_few : Few access_limit 7 (access_walk k)
  access_few = few_then locate_few (λ at. few_then (entry_few at) (λ found. few_then (aste_few found.second) (λ first. few_then (authorized_few found.first first) (λ _. few_read _ _ (λ v. few_answer)))))

valid_few : (level at : ℕ) → Few page_limit 1 (valid_entry level at)
valid_few level at = few_read at _ (λ v. few_check (level_condition level) (bit 58 v) (few_check TranslationSpecification (not (eqb (bits 60 61 v) level)) (few_answer {a = v})))

few_table : (level : ℕ) (t : Table) (page : ℕ) → Few page_limit 1 (table_entry level t page)
few_table level t page = few_check _ _ (valid_few level _)

few_page : (segment page : ℕ) → Few page_limit 1 (page_entry segment page)
few_page segment page = few_read _ _ (λ v. few_check PageTranslation (bit 53 v) (few_check TranslationSpecification (bit 52 v || bit 55 v) (few_answer {a = record { frame = bits 0 51 v; protect = bit 54 segment || bit 54 v }})))

descend_few : (level : ℕ) (t : Table) (private : Bool) (page : ℕ) → Few page_limit (level + 2) (descend level t private page)
descend_few zero t private page = few_then (few_table 0 t page) (λ e. few_check _ _ (few_page e page))
descend_few (suc level) t private page =
    let more : 1 + (level + 2) ≡ suc level + 2 = omega arith in
    subst (λ n. Few page_limit n (descend (suc level) t private page)) more (few_then (few_table (suc level) t page) (λ e. descend_few level (table_below e) private page))

-- a table type is 0 to 3
first_level_small : (asce : ℕ) → first_level asce ≤ 3
first_level_small asce = omega arith

through_few : (asce page : ℕ) → Few page_limit (first_level asce + 2) (through_tables asce page)
through_few asce page = few_check _ _ (descend_few (first_level asce) (table_of asce) (bit 55 asce) page)

pub page_few : (k : PageKey) → Few page_limit 5 (page_walk k)
page_few k = by (bit 58 k.asce)
  where
    by : (t : Bool) → Few page_limit 5 (cond t (answers (record { frame = k.page; protect = false })) (through_tables k.asce k.page))
    by true = record { few = λ word. omega arith }
    by false = record { few = λ word. omega (arith, (through_few k.asce k.page).few word, first_level_small k.asce) }

-- so of both, walked afresh
pub access_fresh_few : (word : ℕ → Option ℕ) (k : AccessKey) → length (access_fresh word k).trace ≤ 7
unfolding access_fresh
access_fresh_few word k = (access_few k).few word

pub page_fresh_few : (word : ℕ → Option ℕ) (k : PageKey) → length (page_fresh word k).trace ≤ 5
unfolding page_fresh
page_fresh_few word k = (page_few k).few word
