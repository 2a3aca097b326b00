-- What operands and an operation on two of them are, beside each other.
use Rattle.std.proofs.Common.{ℕ, Bool, true, false, nat_eq, if◌then◌else◌, Option, option_map, option_and_then}
use Rattle.il_ast.specs.declared.value.Value.{Value}
use Rattle.vcode.specs.declared.place.Location.{Location}
use Rattle.rv_isa.specs.declared.instruction.RegOp.TheVariants.{Add}
use Rattle.vcode.specs.declared.place.Address.{Address}
use Rattle.vcode.specs.declared.place.Operand.{Operand}
use Rattle.vcode.specs.declared.place.Operand.TheVariants.{Number}
use Rattle.vcode.specs.declared.line.Operation.{Operation}
use Rattle.vcode.specs.declared.line.Operation.TheVariants.{Reg}
use Rattle.vcode.specs.Prelude.{distance, operate, State, value_of, operated as values_operated, address_of as value_address}
use Rattle.flat_code.specs.Flat.{Bases}
use Rattle.flat_code.specs.Step.{FlatState, number_of, computed, operated as numbers_operated, address_of}
use Rattle.flat_code.proofs.Shown.{Follows, follows_map, follows_then, operand_follows}
use Rattle.flat_code.proofs.Operating.{operated}
use Rattle.flat_code.proofs.Going.{Setting, IsSetting, Related, names_shown}

pub operand_shown : (c : Setting) → IsSetting c → (p : Bases) (s : State Location) (t : FlatState) → Related c p s t → (a : Operand Location)
    → Follows c.names.entries p (value_of c.names.globals s.values a) (number_of c.names.addresses t.numbers a)
operand_shown c is p s t r a = operand_follows c.names.entries p c.names.globals c.names.addresses s.values t.numbers (names_shown c is p s t r) r.follow a

pub operation_shown : (c : Setting) → IsSetting c → (p : Bases) (s : State Location) (t : FlatState) → Related c p s t → (op : Operation) (a b : Operand Location)
    → Follows c.names.entries p
    (values_operated s.memory op (value_of c.names.globals s.values a) (value_of c.names.globals s.values b))
    (numbers_operated op (number_of c.names.addresses t.numbers a) (number_of c.names.addresses t.numbers b))
operation_shown c is p s t r op a b =
    follows_then c.names.entries p (value_of c.names.globals s.values a) (number_of c.names.addresses t.numbers a)
    (λ u. option_and_then (λ v. operate s.memory op u v) (value_of c.names.globals s.values b))
    (λ x. option_map (λ y. computed op x y) (number_of c.names.addresses t.numbers b)) (operand_shown c is p s t r a)
    (λ u x h. follows_map c.names.entries p (value_of c.names.globals s.values b) (number_of c.names.addresses t.numbers b) (λ v. operate s.memory op u v) (λ y. computed op x y) (operand_shown c is p s t r b)
    (λ v w y k e. operated c.names.entries p s.memory t.memory is.grounded.known r.held.memory op u v w x y h k e))

pub address_shown : (c : Setting) → IsSetting c → (p : Bases) (s : State Location) (t : FlatState) → Related c p s t → (at : Address Location)
    → Follows c.names.entries p (value_address c.names.globals s.memory s.values at) (address_of c.names.addresses t.numbers at)
address_shown c is p s t r at =
    either (nat_eq (distance at) 0) (value_of c.names.globals s.values at.base) (values_operated s.memory (Reg Add) (value_of c.names.globals s.values at.base) (value_of c.names.globals s.values (Number (distance at))))
    (number_of c.names.addresses t.numbers at.base) (numbers_operated (Reg Add) (number_of c.names.addresses t.numbers at.base) (number_of c.names.addresses t.numbers (Number (distance at))))
    (operand_shown c is p s t r at.base) (operation_shown c is p s t r (Reg Add) at.base (Number (distance at)))
  where
    either : (b : Bool) (u v : Option Value) (x y : Option ℕ) → Follows c.names.entries p u x → Follows c.names.entries p v y
        → Follows c.names.entries p (if b then u else v) (if b then x else y)
    either true u v x y h k = h
    either false u v x y h k = k
