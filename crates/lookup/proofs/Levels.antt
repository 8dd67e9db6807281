-- One level of the translation tables, over the level.
use Rattle.std.proofs.Common.{◌≡◌, ℕ, zero, suc, ◌+◌, ◌-◌, ◌<◌, Bool, List, Ok, Err, Option, Result, subst, not-suc-le-zero, arith}
use Rattle.arch.specs.declared.condition.Condition.{Condition}
use Rattle.arch.specs.Walks.{Walks}
use Rattle.arch.proofs.Walks.{walk_on, walk_out}
use Rattle.lookup.specs.declared.page.PageAnswer.{PageAnswer}
use Rattle.lookup.specs.declared.page.Table.{Table}
use Rattle.lookup.specs.Pages.{table_entry, table_below, descend}

module _ {limit : ℕ} {word : ℕ → Option ℕ} {before mid : List ℕ} (level : ℕ) (t : Table) (private : Bool) (page : ℕ) (some : 0 < level) where
  pub level_on : {after : List ℕ} {r : Result PageAnswer Condition} {e : ℕ} {next : Table} → next ≡ table_below e → Walks 1 limit word (table_entry level t page) before mid (Ok e) → Walks (level - 1 + 2) limit word (descend (level - 1) next private page) mid after r → Walks (level + 2) limit word (descend level t private page) before after r
  level_on {after} {r} {e} same p q = by level some p (subst (λ n. Walks (level - 1 + 2) limit word (descend (level - 1) n private page) mid after r) same q)
    where
      by : (l : ℕ) → 0 < l → Walks 1 limit word (table_entry l t page) before mid (Ok e) → Walks (l - 1 + 2) limit word (descend (l - 1) (table_below e) private page) mid after r → Walks (l + 2) limit word (descend l t private page) before after r
      by zero some p q = absurd (not-suc-le-zero some)
      by (suc n) some p q =
          let less : suc n - 1 ≡ n = omega arith in
          let more : 1 + (n + 2) ≡ suc n + 2 = omega arith in
          let q' = subst (λ j. Walks (j + 2) limit word (descend j (table_below e) private page) mid after r) less q in
          subst (λ m. Walks m limit word (descend (suc n) t private page) before after r) more (walk_on (λ e. descend n (table_below e) private page) p q')

  pub level_out : {c : Condition} → Walks 1 limit word (table_entry level t page) before mid (Err c) → Walks (level + 2) limit word (descend level t private page) before mid (Err c)
  level_out {c} p = by level some p
    where
      by : (l : ℕ) → 0 < l → Walks 1 limit word (table_entry l t page) before mid (Err c) → Walks (l + 2) limit word (descend l t private page) before mid (Err c)
      by zero some p = absurd (not-suc-le-zero some)
      by (suc n) some p =
          let more : 1 + (n + 2) ≡ suc n + 2 = omega arith in
          subst (λ m. Walks m limit word (descend (suc n) t private page) before mid (Err c)) more (walk_out (λ e. descend n (table_below e) private page) (n + 2) p)
