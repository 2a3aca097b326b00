-- Small programs, as trees, on which the definitions are tried.
use Rattle.std.specs.Prelude.{◌≡◌, ℕ, zero, suc, List, [], ◌∷◌, length, map, Some, None, true, false, refl}
use Rattle.il_ast.specs.Types.{Class, W, L, Byte, Word, Long, SignedWord, UnsignedByte, Copy, LoadLong, Load, Equal, SignedLess, BinaryOp, Add, Sub, Mul, Compare, Four, Eight, Val, Int, Temp, Global, Dest, Arg, Inst, Unary, Binary, Alloc, Store, Blit, Call, Jump, Goto, Branch, Return, Lined, Phi, PhiArg, Block, Param, Func, Bytes, Items, DataDef, Target, Code, Object, Program, Defined, SystemWrite, SystemExit}
use Rattle.il_ast.specs.declared.instruction.Jump.TheVariants.{Halt}
use Rattle.il_ast.specs.Written.{has_block, have_arguments}
use Rattle.il_ast.specs.Mentions.{come_after, temps_of, labels_of, are_distinct}

-- ---- parts; lines do not matter here

abbrev pub word : ℕ → Dest
word t = record { temp = t; class = W }

abbrev pub long : ℕ → Dest
long t = record { temp = t; class = L }

abbrev pub lined : Inst → Lined Inst
lined i = record { line = 1; item = i }

abbrev pub phi : Dest → List PhiArg → Phi
phi to args = record { line = 1; to = to; args = args }

abbrev pub from : ℕ → Val → PhiArg
from l a = record { from = l; value = a }

abbrev pub block : ℕ → List Phi → List Inst → Jump → Block
block l phis insts jump =
    record {
      line = 1;
      label = l;
      phis = phis;
      insts = map lined insts;
      jump = Some (record { line = 1; item = jump });
    }

abbrev pub param : Dest → Param
param d = record { line = 1; temp = d.temp; class = d.class }

abbrev pub arg : Class → Val → Arg
arg c a = record { class = c; value = a }

-- so many names, each of one byte
abbrev pub names : ℕ → List (List ℕ)
names zero = []
names (suc n) = (n ∷ []) ∷ names n

-- a function whose result is a word, with so many temporaries and labels
abbrev pub function : (params : List Param) (blocks : List Block) (temps labels : ℕ) →
    come_after 0 (temps_of params blocks) ≡ Some (length (names temps)) →
    come_after 0 (labels_of blocks) ≡ Some (length (names labels)) →
    are_distinct (names temps) ≡ true → are_distinct (names labels) ≡ true →
    has_block blocks ≡ true → have_arguments blocks ≡ true → Func
function params blocks temps labels h k d e some args =
    record {
      line = 1;
      exported = true;
      name = 0;
      result = Some W;
      params = params;
      blocks = blocks;
      temps = names temps;
      labels = names labels;
      temps_in_order = h;
      labels_in_order = k;
      temps_distinct = d;
      labels_distinct = e;
      some_block = some;
      some_argument = args;
    }

-- one text: what its names mean, its functions, its data, and which function is `main`
abbrev pub program : List Target → List Func → List DataDef → ℕ → Program
program targets functions objects main =
    record {
      targets = targets ∷ [];
      functions = map (λ (f : Func). record { text = 0; item = f }) functions;
      objects = map (λ (d : DataDef). record { text = 0; item = d }) objects;
      main = main;
    }

-- `main` alone, with no names
abbrev pub alone : Func → Program
alone f = program [] (f ∷ []) [] 0

-- ---- programs

-- the sum of the numbers from 1 to 100, in a loop with two phis
abbrev pub sum_function : Func
sum_function =
    function []
    (block 0 [] [] (Goto 1)
    ∷ block 1
    (phi (word 0) (from 0 (Int 1) ∷ from 1 (Temp 1) ∷ [])
    ∷ phi (word 2) (from 0 (Int 0) ∷ from 1 (Temp 3) ∷ []) ∷ [])
    (Binary (word 3) Add (Temp 2) (Temp 0)
    ∷ Binary (word 1) Add (Temp 0) (Int 1)
    ∷ Binary (word 4) (Compare SignedLess W) (Temp 0) (Int 100)
    ∷ [])
    (Branch (Temp 4) 1 2)
    ∷ block 2 [] [] (Return (Some (Temp 3)))
    ∷ [])
    5 3 refl refl refl refl refl refl

-- `main` of one block, with so many temporaries
abbrev pub straight : (temps : ℕ) (insts : List Inst) (result : Val) →
    come_after 0 (temps_of [] (block 0 [] insts (Return (Some result)) ∷ []))
    ≡ Some (length (names temps)) → are_distinct (names temps) ≡ true → Func
straight temps insts result h d =
    function [] (block 0 [] insts (Return (Some result)) ∷ []) temps 1 h refl d refl refl refl

-- phis that exchange two values
abbrev pub swap_function : Func
swap_function =
    function []
    (block 0 [] [] (Goto 1)
    ∷ block 1
    (phi (word 0) (from 0 (Int 1) ∷ from 1 (Temp 1) ∷ [])
    ∷ phi (word 1) (from 0 (Int 2) ∷ from 1 (Temp 0) ∷ [])
    ∷ phi (word 2) (from 0 (Int 0) ∷ from 1 (Int 1) ∷ [])
    ∷ [])
    []
    (Branch (Temp 2) 2 1)
    ∷ block 2 [] (Binary (word 3) Mul (Temp 0) (Int 10) ∷ Binary (word 4) Add (Temp 3) (Temp 1)
    ∷ []) (Return (Some (Temp 4)))
    ∷ [])
    5 3 refl refl refl refl refl refl

-- one operation on two integers
abbrev pub of_two : BinaryOp → ℕ → ℕ → Program
of_two op a b = alone (straight 1 (Binary (word 0) op (Int a) (Int b) ∷ []) (Temp 0) refl refl)

-- an `l` temporary in a `w` place
abbrev pub wrap : Program
wrap = alone (straight 2 (Unary (long 0) Copy (Int 4294967298)
    ∷ Binary (word 1) Add (Temp 0) (Int 1) ∷ []) (Temp 1) refl refl)

-- ten parameters, of which the last two make the result
abbrev pub ten_function : Func
ten_function =
    function (map (λ (t : ℕ). param (word t)) (0 ∷ 1 ∷ 2 ∷ 3 ∷ 4 ∷ 5 ∷ 6 ∷ 7 ∷ 8 ∷ 9 ∷ []))
    (block 0 [] (Binary (word 10) Mul (Temp 8) (Int 10) ∷ Binary (word 11) Add (Temp 10) (Temp 9)
    ∷ []) (Return (Some (Temp 11))) ∷ [])
    12 1 refl refl refl refl refl refl

abbrev pub ten_main : Func
ten_main =
    straight 1
    (Call (Some (word 0)) (Global 0) (map (λ (n : ℕ). arg W (Int n))
    (1 ∷ 2 ∷ 3 ∷ 4 ∷ 5 ∷ 6 ∷ 7 ∷ 8 ∷ 9 ∷ 10 ∷ [])) ∷ [])
    (Temp 0) refl refl

abbrev pub ten : Program
ten = program (Code (Defined 0) ∷ []) (ten_function ∷ ten_main ∷ []) [] 1

-- a pointer in memory, which is loaded and followed; and one of which a byte is loaded
abbrev pub pointer_kept : Program
pointer_kept =
    alone
    (straight 4
    (Alloc (long 0) Eight 8
    ∷ Alloc (long 1) Four 4
    ∷ Store Long (Temp 1) (Temp 0)
    ∷ Unary (long 2) LoadLong (Temp 0)
    ∷ Store Word (Int 41) (Temp 2)
    ∷ Unary (word 3) (Load SignedWord) (Temp 1)
    ∷ [])
    (Temp 3) refl refl)

abbrev pub pointer_part : Program
pointer_part =
    alone
    (straight 3
    (Alloc (long 0) Eight 8
    ∷ Alloc (long 1) Four 4
    ∷ Store Long (Temp 1) (Temp 0)
    ∷ Unary (word 2) (Load UnsignedByte) (Temp 0)
    ∷ [])
    (Temp 2) refl refl)

-- a function that calls itself so deep
abbrev pub down_function : Func
down_function =
    function (param (word 0) ∷ [])
    (block 0 [] [] (Branch (Temp 0) 1 2)
    ∷ block 1 []
    (Binary (word 1) Sub (Temp 0) (Int 1) ∷ Call (Some (word 2)) (Global 0) (arg W (Temp 1) ∷ [])
    ∷ [])
    (Return (Some (Temp 2)))
    ∷ block 2 [] [] (Return (Some (Int 7)))
    ∷ [])
    3 3 refl refl refl refl refl refl

abbrev pub down_main : ℕ → Func
down_main n =
    straight 1 (Call (Some (word 0)) (Global 0) (arg W (Int n) ∷ []) ∷ []) (Temp 0) refl refl

abbrev pub down : ℕ → Program
down n = program (Code (Defined 0) ∷ []) (down_function ∷ down_main n ∷ []) [] 1

-- a function with a large frame that calls itself for ever
abbrev pub endless_function : Func
endless_function =
    straight 2 (Call (Some (word 0)) (Global 0) [] ∷ Alloc (long 1) Eight 1048576 ∷ []) (Temp 0)
    refl refl

abbrev pub endless : Program
endless = program (Code (Defined 0) ∷ []) (endless_function ∷ []) [] 0

-- a datum, and `main` that writes from it
abbrev pub datum : List ℕ → DataDef
datum bytes =
    record {
      line = 1;
      exported = false;
      name = 0;
      alignment = 8;
      fields = Items Byte (Bytes bytes ∷ []) ∷ [];
    }

abbrev pub writes : (descriptor : ℕ) → Val → (count : ℕ) → Inst
writes d at n = Call (Some (long 0)) (Global 0) (arg W (Int d) ∷ arg L at ∷ arg L (Int n) ∷ [])

abbrev pub hello : Program
hello =
    program (Code SystemWrite ∷ Object 0 ∷ [])
    (straight 1 (writes 1 (Global 1) 3 ∷ []) (Int 0) refl refl ∷ [])
    (datum (72 ∷ 105 ∷ 10 ∷ []) ∷ []) 0

abbrev pub bad_descriptor : Program
bad_descriptor =
    program (Code SystemWrite ∷ []) (straight 1 (writes 2 (Int 0) 5 ∷ []) (Temp 0) refl refl ∷ [])
    [] 0

-- more bytes than the datum has, after some that went out
abbrev pub past_end : Program
past_end =
    program (Code SystemWrite ∷ Object 0 ∷ [])
    (straight 1 (writes 1 (Global 1) 3 ∷ writes 1 (Global 1) 4 ∷ []) (Int 0) refl refl ∷ [])
    (datum (72 ∷ 105 ∷ 10 ∷ []) ∷ []) 0

abbrev pub exits : Program
exits =
    program (Code SystemExit ∷ []) (straight 0 (Call None (Global 0) (arg W (Int 257) ∷ []) ∷ [])
    (Int 0) refl refl ∷ []) [] 0

-- a pointer copied by `blit`, in whole or in part
abbrev pub blit_function : ℕ → Func
blit_function n =
    straight 5
    (Alloc (long 0) Eight 8
    ∷ Alloc (long 1) Eight 8
    ∷ Alloc (long 2) Four 4
    ∷ Store Long (Temp 2) (Temp 0)
    ∷ Blit (Temp 0) (Temp 1) n
    ∷ Unary (long 3) LoadLong (Temp 1)
    ∷ Store Word (Int 9) (Temp 3)
    ∷ Unary (word 4) (Load SignedWord) (Temp 2)
    ∷ [])
    (Temp 4) refl refl

-- two data of one byte each: their pointers compared, the first one moved
abbrev pub compared : ℕ → Program
compared n =
    program (Object 0 ∷ Object 1 ∷ [])
    (straight 2
    (Binary (long 0) Add (Global 0) (Int n) ∷ Binary (word 1) (Compare Equal L) (Temp 0) (Global 1)
    ∷ [])
    (Temp 1) refl refl
    ∷ [])
    (datum (1 ∷ []) ∷ datum (2 ∷ []) ∷ []) 0

-- `main` with argument words, of which it writes the second
abbrev pub with_words : Program
with_words =
    program (Code SystemWrite ∷ [])
    (function (param (word 0) ∷ param (long 1) ∷ [])
    (block 0 []
    (Binary (long 2) Add (Temp 1) (Int 8)
    ∷ Unary (long 3) LoadLong (Temp 2)
    ∷ Call (Some (long 4)) (Global 0) (arg W (Int 1) ∷ arg L (Temp 3) ∷ arg L (Int 3) ∷ [])
    ∷ [])
    (Return (Some (Int 0)))
    ∷ [])
    5 1 refl refl refl refl refl refl
    ∷ [])
    [] 0

-- a temporary read before it is assigned
abbrev pub early_read : Program
early_read =
    alone (straight 2 (Binary (word 0) Add (Temp 1) (Int 1) ∷ Unary (word 1) Copy (Int 1) ∷ [])
    (Temp 0) refl refl)

-- `main` that halts; and `main` that returns no result
abbrev pub halts : Program
halts = alone (function [] (block 0 [] [] Halt ∷ []) 0 1 refl refl refl refl refl refl)

abbrev pub returns_nothing : Program
returns_nothing =
    alone (function [] (block 0 [] [] (Return None) ∷ []) 0 1 refl refl refl refl refl refl)
