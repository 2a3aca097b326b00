-- Small codes on which the definitions are tried.
use Rattle.std.specs.Prelude.{ℕ, ◌-◌, ◌^◌, true, false, List, [], ◌∷◌, Option, Some, None}
use Rattle.il_ast.specs.declared.operation.Class.{Class}
use Rattle.il_ast.specs.declared.operation.Class.TheVariants.{W, L}
use Rattle.il_ast.specs.declared.operation.Size.TheVariants.{Word, Long}
use Rattle.il_ast.specs.declared.operation.Condition.TheVariants.{NotEqual, SignedLess, UnsignedLess}
use Rattle.rv_isa.specs.declared.instruction.RegOp.TheVariants.{Add, Sub, Mul}
use Rattle.rv_isa.specs.declared.instruction.RegWOp.TheVariants.{Addw}
use Rattle.rv_isa.specs.declared.instruction.LoadOp.TheVariants.{Lw, Ld, Lbu}
use Rattle.vcode.specs.Types.{Operand, ReturnValue, At, Number, Name, Destination, Made, Location, Register, Slot, Reg, RegW, Compare, Line, Tick, Set, Operate, Load, Store, Alloc, Blit, Call, Comparison, Jump, Goto, Branch, Return, Halt, Block, Code}
use Rattle.vcode.specs.Addresses.{beyond, at_once}

abbrev pub block : {P : Type 0} → List (Line P) → Jump P → Block P
block lines jump = record { lines = lines; jump = jump }

abbrev pub destination : {P : Type 0} → P → Class → Destination P
destination p c = record { place = p; class = c }

abbrev pub returned : {P : Type 0} → Operand P → Option (ReturnValue P)
returned a = Some (record { value = a; extension = Made })

abbrev pub code : {P : Type 0} → Option Class → List (Destination P) → List (Block P) → Code P
code result params blocks = record { result = result; params = params; blocks = blocks }

-- the word is not 0
abbrev pub not_zero : {P : Type 0} → Operand P → Comparison P
not_zero a = record { condition = NotEqual; class = W; left = a; right = Number 0 }

-- the sum of the numbers from the argument down to 1
abbrev pub sum : Code ℕ
sum =
    code (Some W) (destination 0 W ∷ [])
    (block (Tick true 2 ∷ Set 1 (Number 0) ∷ []) (Goto 1)
    ∷ block
    (Tick true 1
    ∷ Operate 1 (RegW Addw) (At 1) (At 0)
    ∷ Tick true 1
    ∷ Operate 0 (RegW Addw) (At 0) (Number (2 ^ 64 - 1))
    ∷ Tick true 1
    ∷ [])
    (Branch (not_zero (At 0)) 1 2)
    ∷ block (Tick true 1 ∷ []) (Return (returned (At 1)))
    ∷ [])

-- one block with nothing to spend
abbrev pub straight : {P : Type 0} → Class → List (Destination P) → List (Line P) → Operand P →
    Code P
straight k params lines a = code (Some k) params (block lines (Return (returned a)) ∷ [])

-- the argument, given as a word and returned as a value of class k
abbrev pub word_as : Class → Code ℕ
word_as k = straight k (destination 0 W ∷ []) [] (At 0)

-- the argument, given as a long and returned as a word
abbrev pub long_as_word : Code ℕ
long_as_word = straight W (destination 0 L ∷ []) [] (At 0)

-- is the argument, as a word, not zero
abbrev pub is_nonzero : Code ℕ
is_nonzero =
    code (Some W) (destination 0 L ∷ [])
    (block [] (Branch (not_zero (At 0)) 1 2) ∷ block [] (Return (returned (Number 1)))
    ∷ block [] (Return (returned (Number 0))) ∷ [])

-- a call of the function that name 0 means, with 5 from a slot and 7 from x6; then a sum of its
-- result, wanted in x10, and an operand
abbrev pub caller : Operand Location → Code Location
caller a =
    straight L []
    (Tick true 3
    ∷ Set (Slot 0) (Number 5)
    ∷ Set (Register 6) (Number 7)
    ∷ Call (Some (destination (Register 10) W)) (Name 0)
    (record { class = W; value = At (Slot 0); extension = Made }
    ∷ record { class = L; value = At (Register 6); extension = Made } ∷ [])
    ∷ Tick true 1
    ∷ Operate (Register 11) (Reg Add) (At (Register 10)) a
    ∷ [])
    (At (Register 11))

-- a value in a register over a call that wants nothing
abbrev pub keeping : ℕ → Code Location
keeping r =
    straight L [] (Set (Register r) (Number 7) ∷ Call None (Name 0) [] ∷ []) (At (Register r))

-- the same in virtual code
abbrev pub keeping_virtual : Code ℕ
keeping_virtual = straight L [] (Set 10 (Number 7) ∷ Call None (Name 0) [] ∷ []) (At 10)

-- a block of 16 bytes: a word is stored at its begin and copied to its middle; then these lines
abbrev pub in_memory : List (Line ℕ) → Operand ℕ → Code ℕ
in_memory lines a =
    straight L []
    (Alloc (Some 0) 16
    ∷ Store Word (Number (2 ^ 64 - 2)) (at_once (At 0))
    ∷ Operate 1 (Reg Add) (At 0) (Number 8)
    ∷ Blit (At 0) (At 1) 4
    ∷ lines)
    a

abbrev pub loads_word : Code ℕ
loads_word = in_memory (Load 2 Lw (at_once (At 1)) ∷ []) (At 2)

abbrev pub loads_byte : Code ℕ
loads_byte = in_memory (Load 2 Lbu (at_once (At 1)) ∷ []) (At 2)

-- the word at the middle, from the begin
abbrev pub loads_beyond : ℕ → Code ℕ
loads_beyond n = in_memory (Load 2 Lw (beyond (At 0) n) ∷ []) (At 2)

-- the word before the middle
abbrev pub loads_before : Code ℕ
loads_before = in_memory (Load 2 Lw (beyond (At 1) (2 ^ 64 - 8)) ∷ []) (At 2)

-- a block that no place points to
abbrev pub makes_unnamed : Code ℕ
makes_unnamed = straight L [] (Set 0 (Number 5) ∷ Alloc None 16 ∷ []) (At 0)

-- the pointer is kept in memory and read again; its distance from the other
abbrev pub keeps_pointer : Code ℕ
keeps_pointer =
    straight L []
    (Alloc (Some 0) 16 ∷ Operate 1 (Reg Add) (At 0) (Number 8) ∷ Store Long (At 1) (at_once (At 0))
    ∷ Load 2 Ld (at_once (At 0)) ∷ Operate 3 (Reg Sub) (At 2) (At 0) ∷ [])
    (At 3)

abbrev pub compares_pointers : Code ℕ
compares_pointers = in_memory (Operate 2 (Compare UnsignedLess L) (At 0) (At 1) ∷ []) (At 2)

-- of two longs, by their words
abbrev pub compares_words : Code ℕ
compares_words =
    straight W (destination 0 L ∷ destination 1 L ∷ [])
    (Operate 2 (Compare SignedLess W) (At 0) (At 1) ∷ []) (At 2)

-- a pointer times itself, which is nothing; then an operand is returned
abbrev pub squares_pointer : Operand ℕ → Code ℕ
squares_pointer a =
    straight L [] (Alloc (Some 0) 8 ∷ Operate 1 (Reg Mul) (At 0) (At 0) ∷ []) a

-- weight alone, and no turn
abbrev pub heavy : Code ℕ
heavy = code None [] (block (Tick false 9 ∷ []) (Return None) ∷ [])

abbrev pub halts : Code ℕ
halts = code None [] (block (Tick true 1 ∷ []) Halt ∷ [])

abbrev pub leads_nowhere : Code ℕ
leads_nowhere = code None [] (block [] (Goto 7) ∷ [])
