-- Both lookups meet their conditions in the order of their tables.
use Rattle.std.proofs.Common.{ℕ, zero, suc, ◌/◌, ◌^◌, Bool, true, false, cond, not, ◌&&◌, eqb, ltb, [], ◌∷◌, take, drop, Option, refl}
use Rattle.arch.specs.Bits.{bit}
use Rattle.arch.specs.Order.{row, value, missing, Ordered}
use Rattle.arch.specs.Walks.{answers}
use Rattle.arch.specs.declared.condition.Condition.TheVariants.{Addressing, ExtendedAuthority, AsceType}
use Rattle.arch.proofs.Ordered.{InOrder, answered, check_first, last_check, read_first, part_first}
use Rattle.lookup.specs.declared.access.AccessKey.{AccessKey}
use Rattle.lookup.specs.declared.page.PageKey.{PageKey}
use Rattle.lookup.specs.declared.page.Table.{Table}
use Rattle.lookup.specs.Access.{access_limit, locate, entry_first, entry, aste_first, aste_sequence, aste, secondary, authorized, access_walk, authority_length, authority_bit}
use Rattle.lookup.specs.Lookups.{access_fresh, page_fresh}
use Rattle.lookup.specs.Pages.{page_limit, left_of_index, table_below, table_of, table_entry, page_entry, descend, first_level, through_tables, page_walk}
use Rattle.lookup.specs.Orders.{locate_rows, entry_rows, aste_rows, authority_rows, entry_address, entry_one, entry_two, aste_one, authority_address, needs_authority, access_conditions, access_finds, entry_in, table_rows, page_rows, page_found, descent_rows, descent_found, page_conditions, page_finds}

module _ (word : ℕ → Option ℕ) (k : AccessKey) where
  locate_ordered : InOrder access_limit word (locate k) (locate_rows word k) (entry_address word k)
  locate_ordered = check_first (read_first (check_first answered))

  first_ordered : InOrder access_limit word (entry_first k (entry_address word k)) (take 3 (entry_rows word k)) (entry_one word k)
  first_ordered = read_first (check_first (check_first answered))

  entry_ordered : InOrder access_limit word (entry k (entry_address word k)) (entry_rows word k) (record { first = entry_one word k; second = entry_two word k })
  entry_ordered = part_first _ first_ordered (read_first answered)

  aste_first_ordered : InOrder access_limit word (aste_first (entry_two word k)) (take 2 (aste_rows word k)) (aste_one word k)
  aste_first_ordered = read_first (check_first answered)

  sequence_ordered : InOrder access_limit word (aste_sequence (entry_two word k)) (drop 2 (aste_rows word k)) tt
  sequence_ordered = read_first (last_check _ _)

  aste_ordered : InOrder access_limit word (aste (entry_two word k)) (aste_rows word k) (aste_one word k)
  aste_ordered = part_first _ aste_first_ordered (part_first _ sequence_ordered answered)

  secondary_ordered : InOrder access_limit word (secondary k.eax (aste_one word k)) (row ExtendedAuthority (ltb (authority_length (aste_one word k)) (k.eax / 2 ^ 4)) ∷ row Addressing (missing access_limit word (authority_address word k)) ∷ row ExtendedAuthority (not (bit (authority_bit k.eax (aste_one word k)) (value word (authority_address word k)))) ∷ []) tt
  secondary_ordered = check_first (read_first (last_check _ _))

  authority_ordered : InOrder access_limit word (authorized k (entry_one word k) (aste_one word k)) (authority_rows word k) tt
  authority_ordered = by (needs_authority word k)
    where
      by : (t : Bool) → InOrder access_limit word (cond t (secondary k.eax (aste_one word k)) (answers tt)) (row ExtendedAuthority (t && ltb (authority_length (aste_one word k)) (k.eax / 2 ^ 4)) ∷ row Addressing (t && missing access_limit word (authority_address word k)) ∷ row ExtendedAuthority (t && not (bit (authority_bit k.eax (aste_one word k)) (value word (authority_address word k)))) ∷ []) tt
      by true = secondary_ordered
      by false = record { ordered = refl }

  access_ordered : InOrder access_limit word (access_walk k) (access_conditions word k) (access_finds word k)
  access_ordered = part_first _ locate_ordered (part_first _ entry_ordered (part_first _ aste_ordered (part_first _ authority_ordered (read_first answered))))

module _ (word : ℕ → Option ℕ) where
  table_ordered : (level : ℕ) (t : Table) (page : ℕ) → InOrder page_limit word (table_entry level t page) (table_rows word level t page) (entry_in word level t page)
  table_ordered level t page = check_first (read_first (check_first (check_first answered)))

  page_entry_ordered : (segment page : ℕ) → InOrder page_limit word (page_entry segment page) (page_rows word segment page) (page_found word segment page)
  page_entry_ordered segment page = read_first (check_first (check_first answered))

  descent_ordered : (level : ℕ) (t : Table) (private : Bool) (page : ℕ) → InOrder page_limit word (descend level t private page) (descent_rows word level t private page) (descent_found word level t page)
  descent_ordered zero t private page = part_first _ (table_ordered 0 t page) (check_first (page_entry_ordered (entry_in word 0 t page) page))
  descent_ordered (suc level) t private page = part_first _ (table_ordered (suc level) t page) (descent_ordered level (table_below (entry_in word (suc level) t page)) private page)

  page_ordered : (k : PageKey) → InOrder page_limit word (page_walk k) (page_conditions word k) (page_finds word k)
  page_ordered k = by (bit 58 k.asce)
    where
      by : (t : Bool) → InOrder page_limit word (cond t (answers (record { frame = k.page; protect = false })) (through_tables k.asce k.page)) (cond t [] (row AsceType (not (eqb (left_of_index (first_level k.asce) k.page) 0)) ∷ descent_rows word (first_level k.asce) (table_of k.asce) (bit 55 k.asce) k.page)) (cond t (record { frame = k.page; protect = false }) (descent_found word (first_level k.asce) (table_of k.asce) k.page))
      by true = answered
      by false = check_first (descent_ordered (first_level k.asce) (table_of k.asce) (bit 55 k.asce) k.page)

-- so of both, walked afresh
pub access_fresh_ordered : (word : ℕ → Option ℕ) (k : AccessKey) → Ordered (access_conditions word k) (access_finds word k) (access_fresh word k).result
unfolding access_fresh
access_fresh_ordered word k = (access_ordered word k).ordered

pub page_fresh_ordered : (word : ℕ → Option ℕ) (k : PageKey) → Ordered (page_conditions word k) (page_finds word k) (page_fresh word k).result
unfolding page_fresh
page_fresh_ordered word k = (page_ordered word k).ordered
