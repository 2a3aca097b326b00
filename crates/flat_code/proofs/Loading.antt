-- What is loaded from bytes shows what is loaded from blocks.
use Rattle.std.proofs.Common.{◌≡◌, ℕ, ◌+◌, ◌%◌, ◌^◌, ◌<◌, ◌≤◌, List, length, Option, Some, None, refl, sym, ◌∙◌, ap, subst, arith, option_map, option_and_then}
use Rattle.il_ast.specs.declared.value.Value.{Value}
use Rattle.il_ast.specs.declared.value.Value.TheVariants.{Integer, Pointer, Function}
use Rattle.il_ast.specs.declared.value.Cell.{Cell}
use Rattle.il_ast.specs.Prelude.{Memory, cells_at, value_of, load}
use Rattle.rv_isa.specs.declared.instruction.LoadOp.{LoadOp}
use Rattle.rv_isa.specs.declared.instruction.LoadOp.TheVariants.{Lb, Lh, Lw, Ld, Lbu, Lhu, Lwu}
use Rattle.rv_isa.specs.Prelude.{load_size, load_value}
use Rattle.vcode.specs.Prelude.{narrowed, extended, loaded}
use Rattle.flat_code.specs.Flat.{Bases, Entries, Spots, Shows, ShowsMemory}
use Rattle.flat_code.specs.Step.{known_number}
use Rattle.flat_code.proofs.Shown.{Follows, none_follows}
use Rattle.flat_code.proofs.Standing.{Stands, stands}
use Rattle.flat_code.proofs.Runs.{run_of, value_known, known_below, IsSpan, is_span, span_shown}
use Rattle.std.proofs.lemmas.Option.{same_Some, none-some}

-- ---- narrow loads

low_byte : (z : ℕ) → z < 256 → z % 2 ^ 8 ≡ z
low_byte z h = omega arith

low_half : (z : ℕ) → z < 65536 → z % 2 ^ 16 ≡ z
low_half z h = omega arith

low_word : (z : ℕ) → z < 4294967296 → z % 2 ^ 32 ≡ z
low_word z h = omega arith

narrowed_is : (op : LoadOp) (z : ℕ) → z < 256 ^ load_size op → narrowed op z ≡ z
narrowed_is Lb z h = low_byte z h
narrowed_is Lbu z h = low_byte z h
narrowed_is Lh z h = low_half z h
narrowed_is Lhu z h = low_half z h
narrowed_is Lw z h = low_word z h
narrowed_is Lwu z h = low_word z h
narrowed_is Ld z h = refl

extended_shown : (e : Entries) (p : Bases) (op : LoadOp) (u w : Value) (z : ℕ) → Shows e p u z → z < 256 ^ load_size op → extended op u ≡ Some w → Shows e p w (load_value op z)
extended_shown e p op (Integer n) w z h small is =
    subst (λ (v : Value). Shows e p v (load_value op z)) (same_Some (Integer (load_value op (narrowed op n))) w is)
    (ap (load_value op) (sym (narrowed_is op z small) ∙ ap (narrowed op) h))
extended_shown e p Ld (Pointer b o) w z h small is = subst (λ (v : Value). Shows e p v z) (same_Some (Pointer b o) w is) h
extended_shown e p Ld (Function f) w z h small is = subst (λ (v : Value). Shows e p v z) (same_Some (Function f) w is) h
extended_shown e p op (Pointer b o) w z h small is = absurd (none-some w is)
extended_shown e p op (Function f) w z h small is = absurd (none-some w is)

-- ---- a load

span_loaded : (e : Entries) (p : Bases) (m : Memory) (f : Spots) → ShowsMemory e p m f → (op : LoadOp) (b o x : ℕ) (w : Value) → Shows e p (Pointer b o) x
    → (part : List Cell) → IsSpan m b o (load_size op) part → (u : Option Value) → value_of part ≡ u → option_and_then (extended op) u ≡ Some w
    → (z : ℕ) × (option_map (load_value op) (known_number f x (load_size op)) ≡ Some z) × Shows e p w z
span_loaded e p m f memory op b o x w h part s None value is = absurd (none-some w is)
span_loaded e p m f memory op b o x w h part s (Some u) value is =
    let at : Stands p b o x s.cells = stands e p m f b o x s.cells memory s.live (le o (load_size op) (length s.cells) s.within) h in
    let run = run_of e p f (at.base + o) part (span_shown e p m f b o (load_size op) at.base part memory s at.is) in
    let got = value_known e p f (at.base + o) part u run value in
    let known : known_number f x (load_size op) ≡ Some got.0 =
    ap (λ a. known_number f a (load_size op)) at.at ∙ (ap (known_number f (at.base + o)) (sym s.long) ∙ got.1)
    in
    let small : got.0 < 256 ^ load_size op = known_below f memory.bytes (load_size op) x got.0 known in
    (load_value op got.0, ap (option_map (load_value op)) known, extended_shown e p op u w got.0 got.2 small is)
  where
    le : (o n k : ℕ) → o + n ≤ k → o ≤ k
    le o n k h = omega arith

pub loaded_follows : (e : Entries) (p : Bases) (m : Memory) (f : Spots) → ShowsMemory e p m f → (op : LoadOp) (v : Value) (x : ℕ) → Shows e p v x
    → Follows e p (loaded m op v) (option_map (load_value op) (known_number f x (load_size op)))
unfolding loaded load
loaded_follows e p m f memory op (Integer n) x h = none_follows e p (option_map (load_value op) (known_number f x (load_size op)))
loaded_follows e p m f memory op (Function g) x h = none_follows e p (option_map (load_value op) (known_number f x (load_size op)))
loaded_follows e p m f memory op (Pointer b o) x h = λ w is. by_span w (cells_at m b o (load_size op)) refl is
  where
    by_span : (w : Value) (part : Option (List Cell)) → cells_at m b o (load_size op) ≡ part → option_and_then (extended op) (option_and_then value_of part) ≡ Some w
        → (z : ℕ) × (option_map (load_value op) (known_number f x (load_size op)) ≡ Some z) × Shows e p w z
    by_span w None cells is = absurd (none-some w is)
    by_span w (Some part) cells is =
        span_loaded e p m f memory op b o x w h part (is_span m b o (load_size op) part cells) (value_of part) refl is
