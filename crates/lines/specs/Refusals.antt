-- A line of a listing: the number of a line of the run text, and then fields.
use Rattle.std.specs.Prelude.{ℕ, List, [], ◌∷◌, ◌++◌, codes, decimal}
use Rattle.arch.specs.declared.condition.Condition.{Condition}
use Rattle.arch.specs.Conditions.{code_of, name_of}
use Rattle.runtext.specs.Lines.{tab, line_end}

-- each field after a tab, and then the line's end
abbrev pub after_tabs : List (List ℕ) → List ℕ
after_tabs [] = line_end ∷ []
after_tabs (f ∷ fs) = tab ∷ (f ++ after_tabs fs)

-- the line with this number and these fields
abbrev pub numbered : ℕ → List (List ℕ) → List ℕ
numbered n fs = decimal n ++ after_tabs fs

-- the line of a refusal: E, code and name of the condition, and how many doublewords were asked for before it
abbrev pub refusal_line : ℕ → Condition → ℕ → List ℕ
refusal_line n condition count = numbered n (codes "E" ∷ code_of condition ∷ name_of condition ∷ decimal count ∷ [])
