-- The lines of an operation set its register, read its operands, and do nothing else.
use Rattle.std.proofs.Common.{◌≡◌, ℕ, Bool, true, false, ◌&&◌, List, [], ◌∷◌, refl, ◌∙◌, ap, arith, ◌⊎◌, inl, inr}
use Rattle.std.specs.List.{list_all, list_any, sum_by}
use Rattle.std.proofs.lemmas.List.Sums.{sum_by-cons}
use Rattle.std.proofs.lemmas.Bool.{and_from}
use Rattle.il_ast.specs.declared.operation.Class.{Class}
use Rattle.il_ast.specs.declared.operation.Class.TheVariants.{W, L}
use Rattle.il_ast.specs.declared.operation.Extension.{Extension}
use Rattle.il_ast.specs.declared.operation.Extension.TheVariants.{SignedWord, UnsignedWord, SignedHalf, UnsignedHalf, SignedByte, UnsignedByte}
use Rattle.il_ast.specs.declared.operation.UnaryOp.{UnaryOp}
use Rattle.il_ast.specs.declared.operation.UnaryOp.TheVariants.{Neg, Copy, Extend, LoadLong, Load as LoadNarrow}
use Rattle.il_ast.specs.declared.operation.Condition.{Condition}
use Rattle.il_ast.specs.declared.operation.BinaryOp.{BinaryOp}
use Rattle.il_ast.specs.declared.operation.BinaryOp.TheVariants.{Add, Sub, Mul, And, Or, Xor, Div, Rem, Udiv, Urem, Sar, Shr, Shl, Compare}
use Rattle.rv_isa.specs.declared.instruction.RegOp.{RegOp}
use Rattle.rv_isa.specs.declared.instruction.RegOp.TheVariants.{And as AndReg, Or as OrReg, Xor as XorReg}
use Rattle.vcode.specs.declared.place.Operand.{Operand}
use Rattle.vcode.specs.declared.place.Operand.TheVariants.{At, Number, Name}
use Rattle.vcode.specs.declared.line.Line.{Line}
use Rattle.vcode.specs.declared.line.Line.TheVariants.{Tick, Set, Operate, Load, Store, Alloc, Blit, Call}
use Rattle.vcode.specs.Prelude.{operand_keeps, line_keeps, is_alloc, alloc_bytes, turns_of, passes_few}
use Rattle.select.specs.Selected.{is_whole, are_whole, word, words_compared, comparison_of, word_line, word_of, bits_of_words, bit_lines, compare_line, extend_lines, copy_lines, unary_lines, binary_lines}
use Rattle.select.specs.Typed.{Classes}
use Rattle.phi_copies.proofs.Members.{Among}

-- the operand is the register t, or one of these, or no register
abbrev pub In : ℕ → List (Operand ℕ) → Operand ℕ → Type 0
In t xs (At q) = (q ≡ t) ⊎ Among (At q) xs
In t xs (Number n) = Unit {0}
In t xs (Name g) = Unit {0}

pub among_in : (t : ℕ) (xs : List (Operand ℕ)) (a : Operand ℕ) → Among a xs → In t xs a
among_in t xs (At q) h = inr h
among_in t xs (Number n) h = tt
among_in t xs (Name g) h = tt

-- lines that set the register t from these operands
abbrev pub Sets : ℕ → List (Operand ℕ) → List (Line ℕ) → Type 0
Sets t xs [] = Unit {0}
Sets t xs (Tick turn w ∷ ls) = ⊥
Sets t xs (Set p a ∷ ls) = (p ≡ t) × In t xs a × Sets t xs ls
Sets t xs (Operate p op a b ∷ ls) = (p ≡ t) × In t xs a × In t xs b × Sets t xs ls
Sets t xs (Load p op at ∷ ls) = (p ≡ t) × In t xs at.base × Sets t xs ls
Sets t xs (Store size a at ∷ ls) = ⊥
Sets t xs (Alloc p size ∷ ls) = ⊥
Sets t xs (Blit from to count ∷ ls) = ⊥
Sets t xs (Call to callee args ∷ ls) = ⊥

-- an operand's word is in no other register
word_in : (t : ℕ) (xs : List (Operand ℕ)) (a : Operand ℕ) → In t xs a → In t xs (word a)
word_in t xs (At p) i = i
word_in t xs (Number n) i = tt
word_in t xs (Name g) i = tt

word_sets : (classes : Classes) (t : ℕ) (a : Operand ℕ) → Sets t (a ∷ []) (word_of classes t a ∷ [])
word_sets classes t a = by (is_whole classes a)
  where
    by : (whole : Bool) → Sets t (a ∷ []) (word_line t a whole ∷ [])
    by true = (refl, word_in t (a ∷ []) a (among_in t (a ∷ []) a (inl refl)), tt)
    by false = (refl, among_in t (a ∷ []) a (inl refl), tt, tt)

pub copy_sets : (classes : Classes) (t : ℕ) (k : Class) (a : Operand ℕ) → Sets t (a ∷ []) (copy_lines classes t k a)
copy_sets classes t W a = word_sets classes t a
copy_sets classes t L a = (refl, among_in t (a ∷ []) a (inl refl), tt)

extend_sets : (classes : Classes) (t : ℕ) (e : Extension) (a : Operand ℕ) → Sets t (a ∷ []) (extend_lines classes t e a)
extend_sets classes t SignedWord a = word_sets classes t a
extend_sets classes t UnsignedWord a = (refl, among_in t (a ∷ []) a (inl refl), tt, (refl, inl refl, tt, tt))
extend_sets classes t SignedHalf a = (refl, among_in t (a ∷ []) a (inl refl), tt, (refl, inl refl, tt, tt))
extend_sets classes t UnsignedHalf a = (refl, among_in t (a ∷ []) a (inl refl), tt, (refl, inl refl, tt, tt))
extend_sets classes t SignedByte a = (refl, among_in t (a ∷ []) a (inl refl), tt, (refl, inl refl, tt, tt))
extend_sets classes t UnsignedByte a = (refl, among_in t (a ∷ []) a (inl refl), tt, tt)

pub unary_sets : (classes : Classes) (t : ℕ) (op : UnaryOp) (k : Class) (a : Operand ℕ) → Sets t (a ∷ []) (unary_lines classes t op k a)
unary_sets classes t Neg W a = (refl, tt, among_in t (a ∷ []) a (inl refl), tt)
unary_sets classes t Neg L a = (refl, tt, among_in t (a ∷ []) a (inl refl), tt)
unary_sets classes t Copy k a = copy_sets classes t k a
unary_sets classes t (Extend e) k a = extend_sets classes t e a
unary_sets classes t LoadLong k a = (refl, among_in t (a ∷ []) a (inl refl), tt)
unary_sets classes t (LoadNarrow e) k a = (refl, among_in t (a ∷ []) a (inl refl), tt)

bits_set : (classes : Classes) (t : ℕ) (op : RegOp) (xs : List (Operand ℕ)) (a b : Operand ℕ) → In t xs a → In t xs b → Sets t xs (bit_lines classes t op a b)
bits_set classes t op xs a b i j = by (are_whole classes a b)
  where
    by : (whole : Bool) → Sets t xs (bits_of_words t op a b whole)
    by true = (refl, word_in t xs a i, word_in t xs b j, tt)
    by false = (refl, i, j, (refl, inl refl, tt, tt))

compare_sets : (classes : Classes) (t : ℕ) (on : Condition) (k : Class) (xs : List (Operand ℕ)) (a b : Operand ℕ) → In t xs a → In t xs b → Sets t xs (compare_line t (comparison_of classes on k a b) ∷ [])
compare_sets classes t on L xs a b i j = (refl, i, j, tt)
compare_sets classes t on W xs a b i j = by (are_whole classes a b)
  where
    by : (whole : Bool) → Sets t xs (compare_line t (words_compared on a b whole) ∷ [])
    by true = (refl, word_in t xs a i, word_in t xs b j, tt)
    by false = (refl, i, j, tt)

pub binary_sets : (classes : Classes) (t : ℕ) (op : BinaryOp) (k : Class) (a b : Operand ℕ) → Sets t (a ∷ b ∷ []) (binary_lines classes t op k a b)
binary_sets classes t op k a b = by op k (among_in t (a ∷ b ∷ []) a (inl refl)) (among_in t (a ∷ b ∷ []) b (inr (inl refl)))
  where
    by : (o : BinaryOp) (c : Class) → In t (a ∷ b ∷ []) a → In t (a ∷ b ∷ []) b → Sets t (a ∷ b ∷ []) (binary_lines classes t o c a b)
    by Add W x y = (refl, x, y, tt)
    by Add L x y = (refl, x, y, tt)
    by Sub W x y = (refl, x, y, tt)
    by Sub L x y = (refl, x, y, tt)
    by Mul W x y = (refl, x, y, tt)
    by Mul L x y = (refl, x, y, tt)
    by And W x y = bits_set classes t AndReg (a ∷ b ∷ []) a b x y
    by And L x y = (refl, x, y, tt)
    by Or W x y = bits_set classes t OrReg (a ∷ b ∷ []) a b x y
    by Or L x y = (refl, x, y, tt)
    by Xor W x y = bits_set classes t XorReg (a ∷ b ∷ []) a b x y
    by Xor L x y = (refl, x, y, tt)
    by Div W x y = (refl, x, y, tt)
    by Div L x y = (refl, x, y, tt)
    by Rem W x y = (refl, x, y, tt)
    by Rem L x y = (refl, x, y, tt)
    by Udiv W x y = (refl, x, y, tt)
    by Udiv L x y = (refl, x, y, tt)
    by Urem W x y = (refl, x, y, tt)
    by Urem L x y = (refl, x, y, tt)
    by Sar W x y = (refl, x, y, tt)
    by Sar L x y = (refl, x, y, tt)
    by Shr W x y = (refl, x, y, tt)
    by Shr L x y = (refl, x, y, tt)
    by Shl W x y = (refl, x, y, tt)
    by Shl L x y = (refl, x, y, tt)
    by (Compare on j) c x y = compare_sets classes t on j (a ∷ b ∷ []) a b x y

-- ---- what follows of such lines

pub no_alloc : (t : ℕ) (xs : List (Operand ℕ)) (ls : List (Line ℕ)) → Sets t xs ls → list_any is_alloc ls ≡ false
no_alloc t xs [] s = refl
no_alloc t xs (Tick turn w ∷ ls) s = absurd s
no_alloc t xs (Set p a ∷ ls) s = no_alloc t xs ls s.2
no_alloc t xs (Operate p op a b ∷ ls) s = no_alloc t xs ls s.3
no_alloc t xs (Load p op a ∷ ls) s = no_alloc t xs ls s.2
no_alloc t xs (Store size a at ∷ ls) s = absurd s
no_alloc t xs (Alloc p size ∷ ls) s = absurd s
no_alloc t xs (Blit from to count ∷ ls) s = absurd s
no_alloc t xs (Call to callee args ∷ ls) s = absurd s

no_more : (m : Line ℕ → ℕ) (l : Line ℕ) (ls : List (Line ℕ)) → m l ≡ 0 → sum_by m ls ≡ 0 → sum_by m (l ∷ ls) ≡ 0
no_more m l ls h k = let all = sum_by-cons m l ls in omega (arith, all, h, k)

pub all_few : (t : ℕ) (xs : List (Operand ℕ)) (ls : List (Line ℕ)) → Sets t xs ls → list_all passes_few ls ≡ true
all_few t xs [] s = refl
all_few t xs (Tick turn w ∷ ls) s = absurd s
all_few t xs (Set p a ∷ ls) s = all_few t xs ls s.2
all_few t xs (Operate p op a b ∷ ls) s = all_few t xs ls s.3
all_few t xs (Load p op a ∷ ls) s = all_few t xs ls s.2
all_few t xs (Store size a at ∷ ls) s = absurd s
all_few t xs (Alloc p size ∷ ls) s = absurd s
all_few t xs (Blit from to count ∷ ls) s = absurd s
all_few t xs (Call to callee args ∷ ls) s = absurd s

pub no_area : (t : ℕ) (xs : List (Operand ℕ)) (ls : List (Line ℕ)) → Sets t xs ls → sum_by alloc_bytes ls ≡ 0
no_area t xs [] s = refl
no_area t xs (Tick turn w ∷ ls) s = absurd s
no_area t xs (Set p a ∷ ls) s = no_more alloc_bytes (Set p a) ls refl (no_area t xs ls s.2)
no_area t xs (Operate p op a b ∷ ls) s = no_more alloc_bytes (Operate p op a b) ls refl (no_area t xs ls s.3)
no_area t xs (Load p op a ∷ ls) s = no_more alloc_bytes (Load p op a) ls refl (no_area t xs ls s.2)
no_area t xs (Store size a at ∷ ls) s = absurd s
no_area t xs (Alloc p size ∷ ls) s = absurd s
no_area t xs (Blit from to count ∷ ls) s = absurd s
no_area t xs (Call to callee args ∷ ls) s = absurd s

pub no_turn : (t : ℕ) (xs : List (Operand ℕ)) (ls : List (Line ℕ)) → Sets t xs ls → sum_by turns_of ls ≡ 0
no_turn t xs [] s = refl
no_turn t xs (Tick turn w ∷ ls) s = absurd s
no_turn t xs (Set p a ∷ ls) s = no_more turns_of (Set p a) ls refl (no_turn t xs ls s.2)
no_turn t xs (Operate p op a b ∷ ls) s = no_more turns_of (Operate p op a b) ls refl (no_turn t xs ls s.3)
no_turn t xs (Load p op a ∷ ls) s = no_more turns_of (Load p op a) ls refl (no_turn t xs ls s.2)
no_turn t xs (Store size a at ∷ ls) s = absurd s
no_turn t xs (Alloc p size ∷ ls) s = absurd s
no_turn t xs (Blit from to count ∷ ls) s = absurd s
no_turn t xs (Call to callee args ∷ ls) s = absurd s

-- each of these operands names a register that passes
abbrev pub AllKeep : (ℕ → Bool) → List (Operand ℕ) → Type 0
AllKeep test xs = (a : Operand ℕ) → Among a xs → operand_keeps test a ≡ true

in_keeps : (test : ℕ → Bool) (t : ℕ) (xs : List (Operand ℕ)) (a : Operand ℕ) → test t ≡ true → AllKeep test xs → In t xs a → operand_keeps test a ≡ true
in_keeps test t xs (At q) h all (inl e) = ap test e ∙ h
in_keeps test t xs (At q) h all (inr m) = all (At q) m
in_keeps test t xs (Number n) h all i = refl
in_keeps test t xs (Name g) h all i = refl

pub sets_keep : (test : ℕ → Bool) (t : ℕ) (xs : List (Operand ℕ)) (ls : List (Line ℕ)) → test t ≡ true → AllKeep test xs → Sets t xs ls → list_all (line_keeps test) ls ≡ true
sets_keep test t xs [] h all s = refl
sets_keep test t xs (Tick turn w ∷ ls) h all s = absurd s
sets_keep test t xs (Set p a ∷ ls) h all s =
    and_from (test p && operand_keeps test a) _ (and_from (test p) (operand_keeps test a) (ap test s.0 ∙ h) (in_keeps test t xs a h all s.1)) (sets_keep test t xs ls h all s.2)
sets_keep test t xs (Operate p op a b ∷ ls) h all s =
    and_from (test p && (operand_keeps test a && operand_keeps test b)) _
    (and_from (test p) (operand_keeps test a && operand_keeps test b) (ap test s.0 ∙ h) (and_from (operand_keeps test a) (operand_keeps test b) (in_keeps test t xs a h all s.1) (in_keeps test t xs b h all s.2)))
    (sets_keep test t xs ls h all s.3)
sets_keep test t xs (Load p op at ∷ ls) h all s =
    and_from (test p && operand_keeps test at.base) _ (and_from (test p) (operand_keeps test at.base) (ap test s.0 ∙ h) (in_keeps test t xs at.base h all s.1)) (sets_keep test t xs ls h all s.2)
sets_keep test t xs (Store size a at ∷ ls) h all s = absurd s
sets_keep test t xs (Alloc p size ∷ ls) h all s = absurd s
sets_keep test t xs (Blit from to count ∷ ls) h all s = absurd s
sets_keep test t xs (Call to callee args ∷ ls) h all s = absurd s
