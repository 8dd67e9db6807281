-- The calls that translate, each as a function of what it sees.
use Rattle.std.specs.Prelude.{◌≡◌, ℕ, ◌%◌, ◌≤◌, Bool, cond, not, ◌||◌, List, [], ◌++◌, length, drop, Some, None, Ok, Err, Option, Result, ◌==◌, nat_lt}
use Rattle.arch.specs.declared.call.Access.{Access}
use Rattle.arch.specs.declared.call.Access.TheVariants.{Fetch, Store}
use Rattle.arch.specs.declared.condition.Condition.{Condition}
use Rattle.arch.specs.declared.condition.Condition.TheVariants.{BadNumber, Unaligned, ShortList, Addressing}
use Rattle.arch.specs.declared.record.Word.{Word}
use Rattle.arch.specs.Order.{value}
use Rattle.arch.specs.Walks.{Traced, then}
use Rattle.lookup.specs.declared.access.AccessKey.{AccessKey}
use Rattle.lookup.specs.declared.page.PageKey.{PageKey}
use Rattle.machine.specs.declared.counted.Counted.{Counted}
use Rattle.machine.specs.declared.sources.Operand.{Operand}
use Rattle.machine.specs.declared.sources.Sources.{Sources}
use Rattle.machine.specs.Puts.{put_answer, stored_by}
use Rattle.machine.specs.Scene.{AccessSource, PageSource, Scene, ask_access, ask_page}
use Rattle.machine.specs.Translation.{unless, cut, mode_asks, page_asked, space_by_mode, translation}
use Rattle.machine.specs.Turns.{AsksAccess, AsksPage}

-- what a call gives and lists, whether it is refused before it asks, and which key it asks each source for, by what it
-- sees
pub record Translating (X : Type 0) : Type 0 where
  pub refused : Bool
  pub gives : Scene → Traced X
  pub access_key : Scene → Option AccessKey
  pub page_key : Scene → Option PageKey

-- the keys that a translation which is not refused asks for
abbrev pub access_key_asked : Scene → Operand → Option AccessKey
access_key_asked n o = mode_asks n.registers.mode n.registers o.register

abbrev pub page_key_asked : Scene → Access → Operand → Option PageKey
page_key_asked n access o = page_asked n.registers access (cut n.registers.size o.address) (space_by_mode n.registers.mode n.registers (ask_access n) o.register).result

-- of such keys none where the call is refused
abbrev pub unless_refused : {Key : Type 0} → Bool → Option Key → Option Key
unless_refused refused key = cond refused None key

-- a translation is refused at a number of no access register, or with too few places for its list
abbrev pub refuses_translation : Operand → ℕ → Bool
refuses_translation o places = nat_lt 15 o.register || nat_lt places 12

abbrev pub translates : Access → Operand → ℕ → Translating ℕ
translates access o places = record {
  refused = refuses_translation o places;
  gives = λ n. translation n.registers (ask_access n) (ask_page n) n.real access o places;
  access_key = λ n. unless_refused (refuses_translation o places) (access_key_asked n o);
  page_key = λ n. unless_refused (refuses_translation o places) (page_key_asked n access o);
}

-- a fetch or a store also at an address that is no multiple of 8
abbrev pub refuses_access : Operand → ℕ → Bool
refuses_access o places = nat_lt 15 o.register || (not (o.address % 8 == 0) || nat_lt places 12)

-- the translation that a fetch or a store makes: its refusals, and then the translation
abbrev pub accesses : Access → Operand → ℕ → Translating ℕ
accesses access o places = record {
  refused = refuses_access o places;
  gives = λ n.
      then (unless BadNumber (nat_lt 15 o.register))
      (λ _. then (unless Unaligned (not (o.address % 8 == 0)))
      (λ _. then (unless ShortList (nat_lt places 12))
      (λ _. (translates access o places).gives n)));
  access_key = λ n. unless_refused (refuses_access o places) (access_key_asked n o);
  page_key = λ n. unless_refused (refuses_access o places) (page_key_asked n access o);
}

-- a result with no address asked for
abbrev pub plainly : {A : Type 0} → Result A Condition → Traced A
plainly r = record { result = r; trace = [] }

-- the doubleword at a real address
abbrev pub value_there : Option ℕ → Result ℕ Condition
value_there None = Err Addressing
value_there (Some x) = Ok x

-- a translation, and then the doubleword there
abbrev pub fetches : Operand → ℕ → Translating ℕ
fetches o places = record {
  refused = refuses_access o places;
  gives = λ n. then ((accesses Fetch o places).gives n) (λ real. plainly (value_there (n.real.word real)));
  access_key = (accesses Fetch o places).access_key;
  page_key = (accesses Fetch o places).page_key;
}

abbrev pub stores : Operand → ℕ → Translating (Unit {0})
stores o places = record {
  refused = refuses_access o places;
  gives = λ n. then ((accesses Store o places).gives n) (λ real. plainly (put_answer n.real real));
  access_key = (accesses Store o places).access_key;
  page_key = (accesses Store o places).page_key;
}

-- where the translation gives an address, the doubleword there is fetched
abbrev pub FetchesThere : Operand → ℕ → Scene → Result ℕ Condition → Type 0
FetchesThere o places n r = (real : ℕ) → ((accesses Fetch o places).gives n).result ≡ Ok real → r ≡ Ok (value n.real.word real)

-- or stored, and a store is done
abbrev pub StoresThere : Operand → ℕ → Scene → Result (Unit {0}) Condition → Type 0
StoresThere o places n r = (real : ℕ) → ((accesses Store o places).gives n).result ≡ Ok real → r ≡ Ok tt

-- the doubleword that a store sets, if any
abbrev pub stored_word : Operand → ℕ → ℕ → Scene → Option Word
stored_word o places x n = stored_by ((accesses Store o places).gives n).result x

abbrev pub traced : {X : Type 0} → Result X Condition → List ℕ → Traced X
traced r trace = record { result = r; trace = trace }

-- what such a call leaves: its result and count, and in the list's first places the addresses asked for, at most
-- twelve; the other places are as they were
pub record Reports {X : Type 0} (t : Traced X) (before after : List ℕ) (r : Counted X) : Type 0 where
  pub result : r.result ≡ t.result
  pub count : r.count ≡ length t.trace
  pub list : after ≡ t.trace ++ drop (length t.trace) before
  pub few : length t.trace ≤ 12

-- what making such a call reports, and what it does to the sources
pub record Makes {A P X : Type 0} (a : AccessSource A) (p : PageSource P) (c : Translating X) (n : Scene) (before : Sources A P) (list : List ℕ) (r : Counted X) (after : Sources A P) (list' : List ℕ) : Type 0 where
  pub reports : Reports (c.gives n) list list' r
  pub access : AsksAccess a n.real (c.access_key n) before.access after.access
  pub page : AsksPage p n.real (c.page_key n) before.page after.page
