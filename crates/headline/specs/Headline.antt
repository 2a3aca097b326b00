-- What the machine does with a compiled program, in the terms of the program's meaning alone.
use Rattle.std.specs.Prelude.{◌≡◌, ℕ, ◌+◌, ◌*◌, ◌≤◌, List}
use Rattle.il_ast.specs.declared.program.Program.{Program}
use Rattle.il_ast.specs.declared.value.End.TheVariants.{Exit, Halt, Undefined, Stack, Turns}
use Rattle.il_ast.specs.Prelude.{price, outcome, meaning, spent_of}
use Rattle.rv_isa.specs.Prelude.{State, Stop, Exited, Broken, Going, Stopped, runs}

-- the instructions that the program's run of n turns may take
abbrev pub price_at : Program → List (List ℕ) → ℕ → ℕ
price_at p words n = price (spent_of (outcome p words n))

-- the machine stops so, with the program's output, within its price
pub record StopsSo (p : Program) (words : List (List ℕ)) (n : ℕ) (s : State) (stop : Stop) : Type 0
  where
    pub steps : ℕ
    pub last : State
    pub stopped : runs steps s ≡ Stopped stop last
    pub output : last.output ≡ (meaning p words n).output
    pub price : steps ≤ price_at p words n

-- the machine hasn't stopped, has the program's output, and has done at most the price; for each
-- instruction, and before the first, at most 40,000 turns begin
pub record GoesOnSo (p : Program) (words : List (List ℕ)) (n : ℕ) (s : State) : Type 0 where
  pub steps : ℕ
  pub now : State
  pub going : runs steps s ≡ Going now
  pub output : now.output ≡ (meaning p words n).output
  pub price : steps ≤ price_at p words n
  pub pace : n ≤ 40000 * (steps + 1)

-- the machine hasn't stopped, and has put out so much
pub record PutsOut (s : State) (output : List ℕ) : Type 0 where
  pub steps : ℕ
  pub now : State
  pub going : runs steps s ≡ Going now
  pub output_is : now.output ≡ output

-- From s the machine executes the program with these words, at every number of turns: where the
-- program exits or halts, the machine does, with the same output; while the program goes on, so
-- does the machine, with the same output; and what the program puts out before it becomes undefined
-- or runs out of stack, the machine puts out too.
pub record Executes (p : Program) (words : List (List ℕ)) (s : State) : Type 0 where
  pub exits : (n status : ℕ) → (meaning p words n).ending ≡ Exit status →
      StopsSo p words n s (Exited status)
  pub halts : (n : ℕ) → (meaning p words n).ending ≡ Halt → StopsSo p words n s Broken
  pub goes_on : (n : ℕ) → (meaning p words n).ending ≡ Turns → GoesOnSo p words n s
  pub undefined : (n : ℕ) → (meaning p words n).ending ≡ Undefined →
      PutsOut s (meaning p words n).output
  pub stack : (n : ℕ) → (meaning p words n).ending ≡ Stack → PutsOut s (meaning p words n).output
