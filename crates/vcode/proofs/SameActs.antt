-- Lines and jumps in which other operands stand do the same, where the operands that they read have the same values.
use Rattle.std.proofs.Common.{◌≡◌, ℕ, Bool, true, ◌&&◌, List, [], ◌∷◌, map, Option, Some, None, refl, sym, ◌∙◌, ap, option_map, option_and_then}
use Rattle.std.specs.List.{list_all}
use Rattle.std.proofs.lemmas.Bool.{and_parts}
use Rattle.il_ast.specs.declared.operation.Class.{Class}
use Rattle.il_ast.specs.declared.value.Value.{Value}
use Rattle.il_ast.specs.declared.value.Value.TheVariants.{Integer, Pointer, Function}
use Rattle.il_ast.specs.Prelude.{byte_count, in_place, Memory, store, copy, stored_class}
use Rattle.vcode.specs.Prelude.{Operand, Destination, Argument, Line, Tick, Set, Operate, Load, Store, Alloc, Blit, Call, Compare, Jump, Goto, Branch, Return, Halt, operand_keeps, wanted_keeps, line_keeps, jump_keeps, operate, loaded, passed, Values, Replacing, with_argument, with_line, with_jump, value_of, read, read_all, address_of, line_writes, Asks, Gives, given, left, asked, act, entering, answering, way}
use Rattle.vcode.proofs.SameReads.{SameValue, SameArguments, address_same, two_same, args_same}

-- ---- what holds of each operand that is read

abbrev pub ArgumentsRead : (Operand ℕ → Type 0) → List (Argument ℕ) → Type 0
ArgumentsRead holds [] = Unit {0}
ArgumentsRead holds (a ∷ args) = holds a.value × ArgumentsRead holds args

abbrev pub Reads : (Operand ℕ → Type 0) → Line ℕ → Type 0
Reads holds (Tick turn w) = Unit {0}
Reads holds (Set to a) = holds a
Reads holds (Operate to op a b) = holds a × holds b
Reads holds (Load to op at) = holds at.base
Reads holds (Store size a at) = holds a × holds at.base
Reads holds (Alloc to size) = Unit {0}
Reads holds (Blit from to count) = holds from × holds to
Reads holds (Call to callee args) = holds callee × ArgumentsRead holds args

abbrev pub JumpReads : (Operand ℕ → Type 0) → Jump ℕ → Type 0
JumpReads holds (Goto k) = Unit {0}
JumpReads holds (Branch on met otherwise) = holds on.left × holds on.right
JumpReads holds (Return None) = Unit {0}
JumpReads holds (Return (Some a)) = holds a.value
JumpReads holds Halt = Unit {0}

-- what holds of all operands
args_every : (holds : Operand ℕ → Type 0) → ((a : Operand ℕ) → holds a) → (args : List (Argument ℕ)) → ArgumentsRead holds args
args_every holds all [] = tt
args_every holds all (a ∷ args) = (all a.value, args_every holds all args)

pub reads_every : (holds : Operand ℕ → Type 0) → ((a : Operand ℕ) → holds a) → (l : Line ℕ) → Reads holds l
reads_every holds all (Tick turn w) = tt
reads_every holds all (Set to a) = all a
reads_every holds all (Operate to op a b) = (all a, all b)
reads_every holds all (Load to op at) = all at.base
reads_every holds all (Store size a at) = (all a, all at.base)
reads_every holds all (Alloc to size) = tt
reads_every holds all (Blit from to count) = (all from, all to)
reads_every holds all (Call to callee args) = (all callee, args_every holds all args)

pub jump_reads_every : (holds : Operand ℕ → Type 0) → ((a : Operand ℕ) → holds a) → (j : Jump ℕ) → JumpReads holds j
jump_reads_every holds all (Goto k) = tt
jump_reads_every holds all (Branch on met otherwise) = (all on.left, all on.right)
jump_reads_every holds all (Return None) = tt
jump_reads_every holds all (Return (Some a)) = all a.value
jump_reads_every holds all Halt = tt

-- what holds of all operands that name only places of a kind
module _ (test : ℕ → Bool) (holds : Operand ℕ → Type 0) (all : (a : Operand ℕ) → operand_keeps test a ≡ true → holds a) where
  two_named : (a b : Operand ℕ) → (operand_keeps test a && operand_keeps test b) ≡ true → holds a × holds b
  two_named a b h = let s = and_parts (operand_keeps test a) (operand_keeps test b) h in (all a s.0, all b s.1)

  args_named : (args : List (Argument ℕ)) → list_all (λ (a : Argument ℕ). operand_keeps test a.value) args ≡ true → ArgumentsRead holds args
  args_named [] h = tt
  args_named (a ∷ args) h =
      let s = and_parts (operand_keeps test a.value) (list_all (λ (b : Argument ℕ). operand_keeps test b.value) args) h in (all a.value s.0, args_named args s.1)

  pub reads_named : (l : Line ℕ) → line_keeps test l ≡ true → Reads holds l
  reads_named (Tick turn w) h = tt
  reads_named (Set to a) h = all a (and_parts (test to) (operand_keeps test a) h).1
  reads_named (Operate to op a b) h = two_named a b (and_parts (test to) (operand_keeps test a && operand_keeps test b) h).1
  reads_named (Load to op at) h = all at.base (and_parts (test to) (operand_keeps test at.base) h).1
  reads_named (Store size a at) h = two_named a at.base h
  reads_named (Alloc to size) h = tt
  reads_named (Blit from to count) h = two_named from to h
  reads_named (Call to callee args) h =
      let s = and_parts (wanted_keeps test to) (operand_keeps test callee && list_all (λ (a : Argument ℕ). operand_keeps test a.value) args) h in
      let t = and_parts (operand_keeps test callee) (list_all (λ (a : Argument ℕ). operand_keeps test a.value) args) s.1 in
      (all callee t.0, args_named args t.1)

  pub jump_reads_named : (j : Jump ℕ) → jump_keeps test j ≡ true → JumpReads holds j
  jump_reads_named (Goto k) h = tt
  jump_reads_named (Branch on met otherwise) h = two_named on.left on.right h
  jump_reads_named (Return None) h = tt
  jump_reads_named (Return (Some a)) h = all a.value h
  jump_reads_named Halt h = tt

-- ---- the same with other operands

arguments_same : (globals : List Value) (ev el : Values ℕ) (f : Replacing) (args : List (Argument ℕ)) → ArgumentsRead (SameValue globals ev el f) args → SameArguments globals ev el f args
arguments_same globals ev el f [] same = tt
arguments_same globals ev el f (a ∷ args) same = (same.0, arguments_same globals ev el f args same.1)

classes_same : (f : Replacing) (args : List (Argument ℕ)) → map (λ (a : Argument ℕ). a.class) (map (with_argument f) args) ≡ map (λ (a : Argument ℕ). a.class) args
classes_same f [] = refl
classes_same f (a ∷ args) = ap (λ (cs : List Class). a.class ∷ cs) (classes_same f args)

asked_same : (to : Option (Destination ℕ)) (f : Replacing) (args : List (Argument ℕ)) (x : Option Value) (vs : Option (List Value)) → asked to (map (with_argument f) args) x vs ≡ asked to args x vs
asked_same to f args (Some (Function g)) (Some vs) =
    ap (λ (cs : List Class). Asks (record { callee = g; classes = cs; wants = option_map (λ (d : Destination ℕ). d.class) to; args = vs })) (classes_same f args)
asked_same to f args (Some (Function g)) None = refl
asked_same to f args (Some (Integer k)) vs = refl
asked_same to f args (Some (Pointer b k)) vs = refl
asked_same to f args None vs = refl

pub act_same : (globals : List Value) (m : Memory) (ev el : Values ℕ) (f : Replacing) (l : Line ℕ) → Reads (SameValue globals ev el f) l → act globals m el (with_line f l) ≡ act globals m ev l
act_same globals m ev el f (Tick turn w) same = refl
act_same globals m ev el f (Set to a) same = ap Gives same
act_same globals m ev el f (Operate to op a b) same = ap Gives (two_same globals ev el f a b (operate m op) same.0 same.1)
act_same globals m ev el f (Load to op at) same = ap (λ (o : Option Value). given (option_and_then (loaded m op) o)) (address_same globals m ev el f at same)
act_same globals m ev el f (Store size a at) same =
    ap left
    (ap (λ (x : Option Value). option_and_then (λ v. option_and_then (λ p. store m (byte_count size) p v) x) (read globals el (stored_class size) (f a))) (address_same globals m ev el f at same.1)
    ∙ ap (λ (x : Option Value). option_and_then (λ v. option_and_then (λ p. store m (byte_count size) p v) (address_of globals m ev at)) (option_and_then (in_place (stored_class size)) x)) same.0)
act_same globals m ev el f (Alloc to size) same = refl
act_same globals m ev el f (Blit from to count) same = ap left (two_same globals ev el f from to (λ p q. copy m count p q) same.0 same.1)
act_same globals m ev el f (Call to callee args) same =
    ap (λ (x : Option Value). asked to (map (with_argument f) args) x (read_all globals el (map (with_argument f) args))) same.0
    ∙ ap (asked to (map (with_argument f) args) (value_of globals ev callee)) (args_same globals ev el f args (arguments_same globals ev el f args same.1))
    ∙ asked_same to f args (value_of globals ev callee) (read_all globals ev args)

pub way_same : (globals : List Value) (result : Option Class) (m : Memory) (ev el : Values ℕ) (f : Replacing) (j : Jump ℕ) → JumpReads (SameValue globals ev el f) j
    → way globals result m el (with_jump f j) ≡ way globals result m ev j
way_same globals result m ev el f (Goto k) same = refl
way_same globals result m ev el f (Branch on met otherwise) same =
    ap (entering met otherwise) (two_same globals ev el f on.left on.right (operate m (Compare on.condition on.class)) same.0 same.1)
way_same globals result m ev el f (Return None) same = refl
way_same globals None m ev el f (Return (Some a)) same = refl
way_same globals (Some k) m ev el f (Return (Some a)) same = ap (λ (x : Option Value). answering (option_and_then (passed a.extension k) x)) same
way_same globals result m ev el f Halt same = refl

-- it writes what it wrote
pub writes_stay : (f : Replacing) (l : Line ℕ) → line_writes (with_line f l) ≡ line_writes l
writes_stay f (Tick turn w) = refl
writes_stay f (Set to a) = refl
writes_stay f (Operate to op a b) = refl
writes_stay f (Load to op at) = refl
writes_stay f (Store size a at) = refl
writes_stay f (Alloc to size) = refl
writes_stay f (Blit from to count) = refl
writes_stay f (Call to callee args) = refl

-- ---- with its own operands a line is itself

args_itself : (args : List (Argument ℕ)) → map (with_argument (λ a. a)) args ≡ args
args_itself [] = refl
args_itself (a ∷ args) = ap (λ (xs : List (Argument ℕ)). a ∷ xs) (args_itself args)

pub line_itself : (l : Line ℕ) → with_line (λ a. a) l ≡ l
line_itself (Tick turn w) = refl
line_itself (Set to a) = refl
line_itself (Operate to op a b) = refl
line_itself (Load to op at) = refl
line_itself (Store size a at) = refl
line_itself (Alloc to size) = refl
line_itself (Blit from to count) = refl
line_itself (Call to callee args) = ap (λ (xs : List (Argument ℕ)). Call to callee xs) (args_itself args)

pub jump_itself : (j : Jump ℕ) → with_jump (λ a. a) j ≡ j
jump_itself (Goto k) = refl
jump_itself (Branch on met otherwise) = refl
jump_itself (Return None) = refl
jump_itself (Return (Some a)) = refl
jump_itself Halt = refl

pub act_agrees : (globals : List Value) (m : Memory) (ev el : Values ℕ) (l : Line ℕ) → Reads (SameValue globals ev el (λ a. a)) l → act globals m el l ≡ act globals m ev l
act_agrees globals m ev el l same = ap (act globals m el) (sym (line_itself l)) ∙ act_same globals m ev el (λ a. a) l same
