-- What keeps the owners of places and their values in agreement.
use Rattle.std.proofs.Common.{◌≡◌, ℕ, Bool, true, false, not, nat_eq, if◌then◌else◌, List, [], ◌∷◌, map, Option, Some, None, refl, sym, ◌∙◌, ap, arith}
use Rattle.std.specs.Option.{option_map, option_map_or}
use Rattle.std.proofs.lemmas.Bool.Decides.{nat_tests}
use Rattle.std.proofs.lemmas.Bool.{and_parts}
use Rattle.il_ast.specs.declared.operation.Class.{Class}
use Rattle.il_ast.specs.declared.value.Value.{Value}
use Rattle.il_ast.specs.Prelude.{in_place, AreArgs}
use Rattle.vcode.specs.declared.place.Location.{Location}
use Rattle.vcode.specs.declared.place.Location.TheVariants.{Register, Slot}
use Rattle.vcode.specs.declared.place.Operand.{Operand}
use Rattle.vcode.specs.declared.place.ReturnValue.{ReturnValue}
use Rattle.vcode.specs.declared.place.Operand.TheVariants.{At, Number, Name}
use Rattle.vcode.specs.declared.place.Argument.{Argument}
use Rattle.vcode.specs.declared.place.Destination.{Destination}
use Rattle.vcode.specs.Prelude.{held, passed, Values, put, assign, kept, virtual, located, same_location, is_callers, bound, value_of, read, read_argument, read_result, read_all}
use Rattle.vcode.proofs.Following.{Follows, follows_then, follows_map}
use Rattle.certificates.specs.declared.certificate.Equality.{Equality}
use Rattle.certificates.specs.declared.certificate.Transfer.{Transfer}
use Rattle.alloc_check.specs.Prelude.{Layout, placed_operand, placed_argument, placed_returned, Owners, nobody, Agrees, other_than, own_put, own_move, own_kept, own_also, known, owns, operand_held, args_held, all_hold, certified_params, own_params, is_param, params_placed}
use Rattle.il_ast.proofs.Truth.{neither_holds}

-- ---- tests

-- ---- what the second code finds where the first finds something

held_by : (own : Owners) (ev : Values ℕ) (el : Values Location) (d : Location) (r : ℕ) (x : Option ℕ) → own d ≡ x → option_map_or (λ k. nat_eq k r) x false ≡ true → Agrees own ev el → Follows (el d) (ev r)
held_by own ev el d r None is h agrees v e = cc
held_by own ev el d r (Some k) is h agrees v e =
    let same : k ≡ r = grind (arith, nat_tests) in
    agrees d k v is (ap ev same ∙ e)

pub owned_follows : (own : Owners) (ev : Values ℕ) (el : Values Location) (d : Location) (r : ℕ) → owns own d r ≡ true → Agrees own ev el → Follows (el d) (ev r)
owned_follows own ev el d r h agrees = held_by own ev el d r (own d) refl h agrees

pub operand_follows : (globals : List Value) (own : Owners) (ev : Values ℕ) (el : Values Location) (f : Layout) (a : Operand ℕ) → operand_held own f a ≡ true → Agrees own ev el
    → Follows (value_of globals el (placed_operand f a)) (value_of globals ev a)
operand_follows globals own ev el f (At r) h agrees = owned_follows own ev el (f r) r h agrees
operand_follows globals own ev el f (Number n) h agrees = λ v e. e
operand_follows globals own ev el f (Name g) h agrees = λ v e. e

pub read_follows : (globals : List Value) (own : Owners) (ev : Values ℕ) (el : Values Location) (f : Layout) (k : Class) (a : Operand ℕ) → operand_held own f a ≡ true → Agrees own ev el
    → Follows (read globals el k (placed_operand f a)) (read globals ev k a)
read_follows globals own ev el f k a h agrees =
    follows_then (value_of globals el (placed_operand f a)) (value_of globals ev a) (in_place k) (in_place k) (operand_follows globals own ev el f a h agrees) (λ x y e. e)

pub result_follows : (globals : List Value) (own : Owners) (ev : Values ℕ) (el : Values Location) (f : Layout) (k : Class) (a : ReturnValue ℕ) → operand_held own f a.value ≡ true → Agrees own ev el
    → Follows (read_result globals el k (placed_returned f a)) (read_result globals ev k a)
result_follows globals own ev el f k a h agrees =
    follows_then (value_of globals el (placed_operand f a.value)) (value_of globals ev a.value) (passed a.extension k) (passed a.extension k)
    (operand_follows globals own ev el f a.value h agrees) (λ x y e. e)

argument_follows : (globals : List Value) (own : Owners) (ev : Values ℕ) (el : Values Location) (f : Layout) (a : Argument ℕ) → operand_held own f a.value ≡ true → Agrees own ev el
    → Follows (read_argument globals el (placed_argument f a)) (read_argument globals ev a)
argument_follows globals own ev el f a h agrees =
    follows_then (value_of globals el (placed_operand f a.value)) (value_of globals ev a.value) (passed a.extension a.class) (passed a.extension a.class)
    (operand_follows globals own ev el f a.value h agrees) (λ x y e. e)

pub args_follow : (globals : List Value) (own : Owners) (ev : Values ℕ) (el : Values Location) (f : Layout) (args : List (Argument ℕ)) → args_held own f args ≡ true → Agrees own ev el
    → Follows (read_all globals el (map (placed_argument f) args)) (read_all globals ev args)
args_follow globals own ev el f [] h agrees = λ v e. e
args_follow globals own ev el f (a ∷ args) h agrees =
    let both = and_parts (operand_held own f a.value) (args_held own f args) h in
    follows_then (read_argument globals el (placed_argument f a)) (read_argument globals ev a)
    (λ v. option_map (λ vs. v ∷ vs) (read_all globals ev args)) (λ v. option_map (λ vs. v ∷ vs) (read_all globals el (map (placed_argument f) args)))
    (argument_follows globals own ev el f a both.0 agrees)
    (λ v. follows_map (read_all globals el (map (placed_argument f) args)) (read_all globals ev args) (λ vs. v ∷ vs) (args_follow globals own ev el f args both.1 agrees))

-- ---- a register is written

not_that_by : (r j k : ℕ) (b : Bool) → nat_eq j r ≡ b → (if b then None else Some j) ≡ Some k → (Some j ≡ Some k) × (nat_eq k r ≡ false)
not_that_by r j k true e h = cc
not_that_by r j k false e h = (h, (let same : j ≡ k = cc in ap (λ n. nat_eq n r) (sym same) ∙ e))

not_that : (r k : ℕ) (x : Option ℕ) → other_than r x ≡ Some k → (x ≡ Some k) × (nat_eq k r ≡ false)
not_that r k None h = cc
not_that r k (Some j) h = not_that_by r j k (nat_eq j r) refl h

put_at : (own : Owners) (ev : Values ℕ) (el : Values Location) (r : ℕ) (o p : Option Value) → Follows p o → Agrees own ev el → (q : Location) (k : ℕ) (v : Value) (b : Bool)
    → (if b then Some r else other_than r (own q)) ≡ Some k → (if nat_eq k r then o else ev k) ≡ Some v → (if b then p else el q) ≡ Some v
put_at own ev el r o p follows agrees q k v true hk hv =
    let same : r ≡ k = cc in
    let yes_test : nat_eq k r ≡ true = grind (arith, nat_tests) in
    follows v (ap (λ t. if t then o else ev k) (sym yes_test) ∙ hv)
put_at own ev el r o p follows agrees q k v false hk hv =
    let found = not_that r k (own q) hk in
    agrees q k v found.0 (ap (λ t. if t then o else ev k) (sym found.1) ∙ hv)

pub put_agrees : (own : Owners) (ev : Values ℕ) (el : Values Location) (d : Location) (r : ℕ) (o p : Option Value) → Follows p o → Agrees own ev el
    → Agrees (own_put d r own) (assign virtual r o ev) (assign located d p el)
put_agrees own ev el d r o p follows agrees q k v hk hv = put_at own ev el r o p follows agrees q k v (same_location q d) hk hv

-- ---- a value is moved, a call is made

move_at : (own : Owners) (ev : Values ℕ) (el : Values Location) (m : Transfer) → Agrees own ev el → (q : Location) (k : ℕ) (v : Value) (b : Bool)
    → (if b then own m.from else own q) ≡ Some k → ev k ≡ Some v → (if b then el m.from else el q) ≡ Some v
move_at own ev el m agrees q k v true hk hv = agrees m.from k v hk hv
move_at own ev el m agrees q k v false hk hv = agrees q k v hk hv

pub move_agrees : (own : Owners) (ev : Values ℕ) (el : Values Location) (m : Transfer) → Agrees own ev el → Agrees (own_move m own) ev (assign located m.to (el m.from) el)
move_agrees own ev el m agrees q k v hk hv = move_at own ev el m agrees q k v (same_location q m.to) hk hv

kept_at : (own : Owners) (ev : Values ℕ) (el : Values Location) → Agrees own ev el → (q : Location) (k : ℕ) (v : Value) (b : Bool)
    → (if b then None else own q) ≡ Some k → ev k ≡ Some v → (if b then None else el q) ≡ Some v
kept_at own ev el agrees q k v true hk hv = cc
kept_at own ev el agrees q k v false hk hv = agrees q k v hk hv

pub kept_agrees : (own : Owners) (ev : Values ℕ) (el : Values Location) → Agrees own ev el → Agrees (own_kept own) (kept virtual ev) (kept located el)
kept_agrees own ev el agrees q k v hk hv = kept_at own ev el agrees q k v (is_callers q) hk hv

-- ---- a block begins

pub same_is : (p q : Location) → same_location p q ≡ true → p ≡ q
same_is (Register a) (Register b) h = ap (λ n. Register n) (let e : a ≡ b = grind (arith, nat_tests) in e)
same_is (Slot a) (Slot b) h = ap (λ n. Slot n) (let e : a ≡ b = grind (arith, nat_tests) in e)
same_is (Register a) (Slot b) h = cc
same_is (Slot a) (Register b) h = cc

also_at : (own : Owners) (ev : Values ℕ) (el : Values Location) (e : Equality) → Follows (el e.place) (ev e.register) → Agrees own ev el → (q : Location) (k : ℕ) (v : Value) (b : Bool)
    → same_location q e.place ≡ b → (if b then Some e.register else own q) ≡ Some k → ev k ≡ Some v → el q ≡ Some v
also_at own ev el e follows agrees q k v true at hk hv =
    let same : e.register ≡ k = cc in
    ap el (same_is q e.place at) ∙ follows v (ap ev same ∙ hv)
also_at own ev el e follows agrees q k v false at hk hv = agrees q k v hk hv

abbrev pub AllFollow : Values ℕ → Values Location → List Equality → Type 0
AllFollow ev el [] = Unit {0}
AllFollow ev el (e ∷ es) = Follows (el e.place) (ev e.register) × AllFollow ev el es

pub known_agrees : (ev : Values ℕ) (el : Values Location) (es : List Equality) (own : Owners) → AllFollow ev el es → Agrees own ev el → Agrees (known es own) ev el
known_agrees ev el [] own all agrees = agrees
known_agrees ev el (e ∷ es) own all agrees =
    known_agrees ev el es (own_also e own) all.1 (λ q k v hk hv. also_at own ev el e all.0 agrees q k v (same_location q e.place) refl hk hv)

pub all_follow : (own : Owners) (ev : Values ℕ) (el : Values Location) (es : List Equality) → all_hold own es ≡ true → Agrees own ev el → AllFollow ev el es
all_follow own ev el [] h agrees = tt
all_follow own ev el (e ∷ es) h agrees =
    let both = and_parts (owns own e.place e.register) (all_hold own es) h in
    (owned_follows own ev el e.place e.register both.0 agrees, all_follow own ev el es both.1 agrees)

pub nobody_agrees : (ev : Values ℕ) (el : Values Location) → Agrees nobody ev el
nobody_agrees ev el q k v hk hv = cc

-- ---- the start

pub params_agree : (own : Owners) (ev : Values ℕ) (el : Values Location) (ds : List (Destination ℕ)) (qs : List Location) (vs : List Value) → params_placed ds qs ≡ true
    → AreArgs (map (λ d. d.class) ds) vs → Agrees own ev el → Agrees (own_params ds qs own) (bound virtual ev ds vs) (bound located el (certified_params ds qs) vs)
params_agree own ev el [] qs [] placed args agrees = agrees
params_agree own ev el [] qs (v ∷ vs) placed args agrees = agrees
params_agree own ev el (d ∷ ds) [] vs placed args agrees = cc
params_agree own ev el (d ∷ ds) (q ∷ qs) [] placed args agrees = absurd args
params_agree own ev el (d ∷ ds) (q ∷ qs) (v ∷ vs) placed args agrees =
    params_agree (own_put q d.place own) (put virtual d.place (held d.class v) ev) (put located q (held d.class v) el) ds qs vs placed args.1
    (put_agrees own ev el q d.place (Some (held d.class v)) (Some (held d.class v)) (λ x e. e) agrees)

pub other_unknown : (ev : Values ℕ) (ds : List (Destination ℕ)) (vs : List Value) (r : ℕ) → not (is_param ds r) ≡ true → bound virtual ev ds vs r ≡ ev r
other_unknown ev [] vs r h = refl
other_unknown ev (d ∷ ds) [] r h = refl
other_unknown ev (d ∷ ds) (v ∷ vs) r h =
    let both = neither_holds (nat_eq r d.place) (is_param ds r) h in
    other_unknown (put virtual d.place (held d.class v) ev) ds vs r both.1 ∙ ap (λ t. if t then Some (held d.class v) else ev r) both.0
