-- Calls, and whole programs, on both sides.
use Rattle.std.proofs.Common.{◌≡◌, ℕ, zero, suc, ◌+◌, ◌-◌, ◌%◌, ◌^◌, ◌<◌, ◌≤◌, Bool, true, false, nat_eq, nat_lt, cond, List, [], ◌∷◌, ◌++◌, map, length, replicate, length-append, refl, sym, ◌∙◌, ap, subst, arith, lit<, slice_get, Option, Some, None, flat_map, option_and_then}
use Rattle.std.proofs.lemmas.List.{length-map, length-replicate}
use Rattle.std.proofs.lemmas.Bool.Decides.{nat_tests}
use Rattle.il_ast.specs.declared.operation.Class.{Class}
use Rattle.il_ast.specs.declared.operation.Class.TheVariants.{W, L}
use Rattle.il_ast.specs.declared.operation.Size.{Size}
use Rattle.il_ast.specs.declared.datum.Item.{Item}
use Rattle.il_ast.specs.declared.datum.Item.TheVariants.{Int, Bytes, Address}
use Rattle.il_ast.specs.declared.datum.Field.{Field}
use Rattle.il_ast.specs.declared.datum.Field.TheVariants.{Items, Zeros}
use Rattle.il_ast.specs.declared.datum.DataDef.{DataDef}
use Rattle.il_ast.specs.declared.function.Param.{Param}
use Rattle.il_ast.specs.declared.function.Func.{Func}
use Rattle.il_ast.specs.declared.program.Target.{Target}
use Rattle.il_ast.specs.declared.program.Target.TheVariants.{Code, Object}
use Rattle.il_ast.specs.declared.program.InText.{InText}
use Rattle.il_ast.specs.declared.program.Program.{Program}
use Rattle.il_ast.specs.declared.value.Callee.{Callee}
use Rattle.il_ast.specs.declared.value.Callee.TheVariants.{Defined, SystemWrite, SystemExit}
use Rattle.il_ast.specs.declared.value.Value.{Value}
use Rattle.il_ast.specs.declared.value.Value.TheVariants.{Integer, Pointer, Function}
use Rattle.il_ast.specs.declared.value.Cell.{Cell}
use Rattle.il_ast.specs.declared.value.Cell.TheVariants.{Plain, Blank}
use Rattle.il_ast.specs.declared.value.End.{End}
use Rattle.il_ast.specs.declared.value.End.TheVariants.{Exit, Halt, Undefined, Stack, Turns}
use Rattle.il_ast.specs.Prelude.{byte_count, Memory, parts, cells_at, plain_bytes, need, Call, Spent, nothing, one_call, Outcome, Returned, Ended, after, Callees, body, target_value, values_of, globals_of, address_cells, item_cells, field_cells, object_cells, word_cells, pointers_from, list_cells, start_memory, call_fits, answered, put_out, write_bytes, write_integer, write_call, exit_call, call_function, call_named, callees, stack_room, main_args, main_classes, params_of, main_call, Behaviour, outcome, end_of, behaviour_of, meaning}
use Rattle.promote.specs.Uses.{mentions_of, width_in, IsPromoted}
use Rattle.promote.specs.Programs.{ArePromoted, IsProgramPromoted, AreBytes, AreWords, ItemsHaveBytes, FieldsHaveBytes, ObjectsHaveBytes, AreAmong, HasBytes, SameOutcome}
use Rattle.promote.proofs.Respect.{all_respected}
use Rattle.promote.proofs.Rules.{least_need}
use Rattle.promote.proofs.Hiding.{Marks, moved, moved_if, moved_block, place, shown, nothing_hidden, moved_none, moved_later, plain_moved, Clean, IfClean, CleanAll, CleanMemory, CleanCells, IfCleanCells, Extends, clean_later, clean_both, clean_blanks, clean_bytes, clean_parts, cells_at_shown}
use Rattle.promote.proofs.Instructions.{Setting, AllStay, moved_call}
use Rattle.promote.proofs.Runs.{BackSo, EndedSo, OutcomeSo, CalleesSo, outcome_after, body_so}

-- ---- predefined functions

back_here : (hs : Marks) (m : Memory) (s : Spent) (v : Value) → length hs ≡ length m → CleanMemory hs m → Clean hs v → BackSo hs m s (Some v) m (Returned s (Some (moved hs v)) (shown hs m))
back_here hs m s v alike clean value =
    record {
      marks = hs;
      is = refl;
      alike = alike;
      grown = λ b x e. e;
      clean = clean;
      value = value;
      kept = λ b e. refl;
      low = omega arith;
    }

answered_so : (hs : Marks) (m : Memory) (out : List ℕ) (n : ℕ) → length hs ≡ length m → CleanMemory hs m → n < 2 ^ 64 → OutcomeSo hs m (answered out n m) (answered out n (shown hs m))
answered_so hs m out n alike clean fits = back_here hs m (record one_call { output = out }) (Integer n) alike clean fits

bytes_shown : (hs : Marks) (o : Option (List Cell)) → option_and_then plain_bytes (moved_block hs o) ≡ option_and_then plain_bytes o
bytes_shown hs None = refl
bytes_shown hs (Some cells) = plain_moved hs cells

put_out_so : (hs : Marks) (m : Memory) (n : ℕ) (o : Option (List ℕ)) → length hs ≡ length m → CleanMemory hs m → n < 2 ^ 64 → OutcomeSo hs m (put_out n m o) (put_out n (shown hs m) o)
put_out_so hs m n None alike clean fits = tt
put_out_so hs m n (Some bytes) alike clean fits = answered_so hs m bytes n alike clean fits

cond_so : (hs : Marks) (m : Memory) (b : Bool) (x y u v : Outcome) → OutcomeSo hs m x u → OutcomeSo hs m y v → OutcomeSo hs m (cond b x y) (cond b u v)
cond_so hs m true x y u v h k = h
cond_so hs m false x y u v h k = k

write_bytes_so : (hs : Marks) (m : Memory) (p : Value) (n : ℕ) → length hs ≡ length m → CleanMemory hs m → n < 2 ^ 64 → Clean hs p → OutcomeSo hs m (write_bytes p n m) (write_bytes (moved hs p) n (shown hs m))
write_bytes_so hs m (Pointer b o) n alike clean fits h =
    cond_so hs m (nat_eq n 0) (answered [] 0 m) (put_out n m (option_and_then plain_bytes (cells_at m b o n))) (answered [] 0 (shown hs m))
    (put_out n (shown hs m) (option_and_then plain_bytes (cells_at (shown hs m) (place hs b) o n))) (answered_so hs m [] 0 alike clean (lit< tt))
    (subst (λ x. OutcomeSo hs m (put_out n m (option_and_then plain_bytes (cells_at m b o n))) (put_out n (shown hs m) x))
    (sym (ap (option_and_then plain_bytes) (cells_at_shown hs m b o n h) ∙ bytes_shown hs (cells_at m b o n)))
    (put_out_so hs m n (option_and_then plain_bytes (cells_at m b o n)) alike clean fits))
write_bytes_so hs m (Integer k) n alike clean fits h =
    cond_so hs m (nat_eq n 0) (answered [] 0 m) (Ended nothing Undefined) (answered [] 0 (shown hs m)) (Ended nothing Undefined) (answered_so hs m [] 0 alike clean (lit< tt)) tt
write_bytes_so hs m (Function f) n alike clean fits h =
    cond_so hs m (nat_eq n 0) (answered [] 0 m) (Ended nothing Undefined) (answered [] 0 (shown hs m)) (Ended nothing Undefined) (answered_so hs m [] 0 alike clean (lit< tt)) tt

write_integer_so : (hs : Marks) (m : Memory) (p n : Value) → length hs ≡ length m → CleanMemory hs m → Clean hs p → Clean hs n → OutcomeSo hs m (write_integer p n m) (write_integer (moved hs p) (moved hs n) (shown hs m))
write_integer_so hs m p (Integer n) alike clean h k = write_bytes_so hs m p n alike clean k h
write_integer_so hs m p (Pointer b o) alike clean h k = tt
write_integer_so hs m p (Function f) alike clean h k = tt

write_so : (hs : Marks) (m : Memory) (args : List Value) → length hs ≡ length m → CleanMemory hs m → CleanAll hs args → OutcomeSo hs m (write_call args m) (write_call (map (moved hs) args) (shown hs m))
write_so hs m [] alike clean h = tt
write_so hs m (Integer d ∷ []) alike clean h = tt
write_so hs m (Integer d ∷ p ∷ []) alike clean h = tt
write_so hs m (Integer d ∷ p ∷ n ∷ []) alike clean h =
    cond_so hs m (nat_eq d 1) (write_integer p n m) (answered [] (2 ^ 64 - 9) m) (write_integer (moved hs p) (moved hs n) (shown hs m)) (answered [] (2 ^ 64 - 9) (shown hs m))
    (write_integer_so hs m p n alike clean h.1.0 h.1.1.0) (answered_so hs m [] (2 ^ 64 - 9) alike clean (lit< tt))
write_so hs m (Integer d ∷ p ∷ n ∷ x ∷ rest) alike clean h = tt
write_so hs m (Pointer b o ∷ rest) alike clean h = tt
write_so hs m (Function f ∷ rest) alike clean h = tt

exit_so : (hs : Marks) (m : Memory) (args : List Value) → OutcomeSo hs m (exit_call args) (exit_call (map (moved hs) args))
exit_so hs m [] = tt
exit_so hs m (Integer s ∷ []) = refl
exit_so hs m (Integer s ∷ x ∷ rest) = tt
exit_so hs m (Pointer b o ∷ rest) = tt
exit_so hs m (Function f ∷ rest) = tt

-- ---- functions

abbrev pub NamesClean : Program → Marks → Type 0
NamesClean p hs = (t : ℕ) → CleanAll hs (globals_of p t)

abbrev pub NamesStay : Program → Marks → Type 0
NamesStay p hs = (t : ℕ) → AllStay hs (globals_of p t)

all_later : (hs ks : Marks) → Extends hs ks → (vs : List Value) → CleanAll hs vs → CleanAll ks vs
all_later hs ks h [] c = tt
all_later hs ks h (v ∷ vs) c = (clean_later hs ks h v c.0, all_later hs ks h vs c.1)

stay_later : (hs ks : Marks) → Extends hs ks → (vs : List Value) → CleanAll hs vs → AllStay hs vs → AllStay ks vs
stay_later hs ks h [] c s = tt
stay_later hs ks h (v ∷ vs) c s = (moved_later hs ks h v c.0 ∙ s.0, stay_later hs ks h vs c.1 s.1)

-- a call, by what it takes of the function
abbrev called : Call → Callees → (t room : ℕ) → Memory → Func → List Param → Option Class → ℕ → List Value → Outcome
called call f t room m g params result n globals =
    cond (call_fits call (map (λ (x : Param). x.class) params) result)
    (cond (nat_lt room n) (Ended nothing Stack) (after one_call (body (record { func = g; globals = globals }) f t (room - n) call.args m))) (Ended nothing Undefined)

-- the second body runs where the first has room
room_so : (hs : Marks) (m : Memory) (room more n k : ℕ) (o p : Outcome) → room ≤ more → k ≤ n → (n ≤ room → OutcomeSo hs m o p) → (b c : Bool) → nat_lt room n ≡ b → nat_lt more k ≡ c → OutcomeSo hs m (cond b (Ended nothing Stack) o) (cond c (Ended nothing Stack) p)
room_so hs m room more n k o p le less h true c e f = tt
room_so hs m room more n k o p le less h false false e f = h (let enough : n ≤ room = grind (arith, nat_tests) in enough)
room_so hs m room more n k o p le less h false true e f =
    absurd (let enough : n ≤ room = grind (arith, nat_tests) in let few : more < k = grind (arith, nat_tests) in omega arith)

function_so : (p q : Program) (base : Marks) (f g : Callees) → q.targets ≡ p.targets → NamesClean p base → NamesStay p base → CalleesSo base f g → (call : Call) (t room more : ℕ) (hs : Marks) (m : Memory) (x y : InText Func) → room ≤ more → Extends base hs → length hs ≡ length m → CleanMemory hs m → CleanAll hs call.args → y.text ≡ x.text → IsPromoted x.item y.item → OutcomeSo hs m (call_function p f call t room m (Some x)) (call_function q g (moved_call hs call) t more (shown hs m) (Some y))
function_so p q base f g targets names still callees call t room more hs m x y le from alike clean args text r =
    let w = width_in (mentions_of x.item) in
    let globals : globals_of q y.text ≡ globals_of p x.text = ap (λ ts. values_of (slice_get ts y.text)) targets ∙ ap (λ n. values_of (slice_get p.targets n)) text in
    let c : Setting =
    record {
      widths = w;
      globals = globals_of p x.text;
      marks = hs;
      memory = m;
      alike = alike;
      names = all_later base hs from (globals_of p x.text) (names x.text);
      still = stay_later base hs from (globals_of p x.text) (names x.text) (still x.text);
    } in
    let less : need y.item ≤ need x.item = least_need w x.item y.item r in
    let first : ℕ → Outcome = λ k. after one_call (body (record { func = x.item; globals = globals_of p x.text }) f t k call.args m) in
    let second : ℕ → Outcome = λ k. after one_call (body (record { func = y.item; globals = globals_of p x.text }) g t k (map (moved hs) call.args) (shown hs m)) in
    subst (OutcomeSo hs m (call_function p f call t room m (Some x)))
    (sym (ap (λ ps. called (moved_call hs call) g t more (shown hs m) y.item ps y.item.result (need y.item) (globals_of q y.text)) r.params
    ∙ (ap (λ k. called (moved_call hs call) g t more (shown hs m) y.item x.item.params k (need y.item) (globals_of q y.text)) r.result
    ∙ ap (called (moved_call hs call) g t more (shown hs m) y.item x.item.params x.item.result (need y.item)) globals)))
    (cond_so hs m (call_fits call (map (λ (x : Param). x.class) x.item.params) x.item.result)
    (cond (nat_lt room (need x.item)) (Ended nothing Stack) (first (room - need x.item))) (Ended nothing Undefined)
    (cond (nat_lt more (need y.item)) (Ended nothing Stack) (second (more - need y.item))) (Ended nothing Undefined)
    (room_so hs m room more (need x.item) (need y.item) (first (room - need x.item)) (second (more - need y.item)) le less
    (λ enough. outcome_after hs m one_call (body (record { func = x.item; globals = globals_of p x.text }) f t (room - need x.item) call.args m)
    (body (record { func = y.item; globals = globals_of p x.text }) g t (more - need y.item) (map (moved hs) call.args) (shown hs m))
    (body_so c x.item y.item base f g t (room - need x.item) (more - need y.item) call.args (omega (arith, le, less, enough)) r (all_respected (mentions_of x.item)) from callees clean args))
    (nat_lt room (need x.item)) (nat_lt more (need y.item)) refl refl) tt)

-- a function by its number, on both sides
abbrev AtBoth : Option (InText Func) → Option (InText Func) → Type 0
AtBoth None o = o ≡ None
AtBoth (Some x) o = (y : InText Func) × (o ≡ Some y) × (y.text ≡ x.text) × IsPromoted x.item y.item

at_both : (fs gs : List (InText Func)) (k : ℕ) → ArePromoted fs gs → AtBoth (slice_get fs k) (slice_get gs k)
at_both [] [] k h = refl
at_both [] (g ∷ gs) k h = absurd h
at_both (f ∷ fs) [] k h = absurd h
at_both (f ∷ fs) (g ∷ gs) zero h = (g, refl, h.0, h.1)
at_both (f ∷ fs) (g ∷ gs) (suc k) h = at_both fs gs k h.2

defined_so : (p q : Program) (base : Marks) (f g : Callees) → q.targets ≡ p.targets → NamesClean p base → NamesStay p base → CalleesSo base f g → (call : Call) (t room more : ℕ) (hs : Marks) (m : Memory) (x y : Option (InText Func)) → room ≤ more → Extends base hs → length hs ≡ length m → CleanMemory hs m → CleanAll hs call.args → AtBoth x y → OutcomeSo hs m (call_function p f call t room m x) (call_function q g (moved_call hs call) t more (shown hs m) y)
defined_so p q base f g targets names still callees call t room more hs m None y le from alike clean args h = tt
defined_so p q base f g targets names still callees call t room more hs m (Some x) y le from alike clean args h =
    subst (λ o. OutcomeSo hs m (call_function p f call t room m (Some x)) (call_function q g (moved_call hs call) t more (shown hs m) o)) (sym h.1)
    (function_so p q base f g targets names still callees call t room more hs m x h.0 le from alike clean args h.2 h.3)

named_so : (p q : Program) (base : Marks) (f g : Callees) → IsProgramPromoted p q → NamesClean p base → NamesStay p base → CalleesSo base f g → (call : Call) (t room more : ℕ) (hs : Marks) (m : Memory) (k : Callee) → room ≤ more → Extends base hs → length hs ≡ length m → CleanMemory hs m → CleanAll hs call.args → OutcomeSo hs m (call_named p f call t room m k) (call_named q g (moved_call hs call) t more (shown hs m) k)
named_so p q base f g both names still callees call t room more hs m (Defined k) le from alike clean args =
    defined_so p q base f g both.targets names still callees call t room more hs m (slice_get p.functions k) (slice_get q.functions k) le from alike clean args
    (at_both p.functions q.functions k both.functions)
named_so p q base f g both names still callees call t room more hs m SystemWrite le from alike clean args =
    cond_so hs m (call_fits call (W ∷ L ∷ L ∷ []) (Some L)) (write_call call.args m) (Ended nothing Undefined) (write_call (map (moved hs) call.args) (shown hs m)) (Ended nothing Undefined)
    (write_so hs m call.args alike clean args) tt
named_so p q base f g both names still callees call t room more hs m SystemExit le from alike clean args =
    cond_so hs m (call_fits call (W ∷ []) None) (exit_call call.args) (Ended nothing Undefined) (exit_call (map (moved hs) call.args)) (Ended nothing Undefined) (exit_so hs m call.args) tt

pub callees_so : (p q : Program) (base : Marks) → IsProgramPromoted p q → NamesClean p base → NamesStay p base → (k : ℕ) → CalleesSo base (callees p k) (callees q k)
unfolding callees
callees_so p q base both names still zero call t room more hs m le from alike clean args = refl
callees_so p q base both names still (suc k) call t room more hs m le from alike clean args =
    named_so p q base (callees p k) (callees q k) both names still (callees_so p q base both names still k) call t room more hs m call.callee le from alike clean args

-- ---- the start

unmarked : (n b : ℕ) → b < n → slice_get (replicate n false) b ≡ Some false
unmarked zero b h = absurd (omega arith)
unmarked (suc n) zero h = refl
unmarked (suc n) (suc b) h = unmarked n b (omega arith)

targets_clean : (n k : ℕ) (ts : List Target) → k ≤ n → AreAmong k ts → CleanAll (replicate n false) (map target_value ts)
targets_clean n k [] le h = tt
targets_clean n k (Code f ∷ ts) le h = (tt, targets_clean n k ts le h)
targets_clean n k (Object b ∷ ts) le h = let lt = h.0 in (unmarked n b (omega arith), targets_clean n k ts le h.1)

option_clean : (n k : ℕ) (o : Option (List Target)) → k ≤ n → ((ts : List Target) → o ≡ Some ts → AreAmong k ts) → CleanAll (replicate n false) (values_of o)
option_clean n k None le h = tt
option_clean n k (Some ts) le h = targets_clean n k ts le (h ts refl)

plain_clean : (hs : Marks) (bs : List ℕ) → AreBytes bs → CleanCells hs (map Plain bs)
plain_clean hs [] h = tt
plain_clean hs (b ∷ bs) h = (h.0, plain_clean hs bs h.1)

global_clean : (hs : Marks) (vs : List Value) (g : ℕ) → CleanAll hs vs → IfClean hs (slice_get vs g)
global_clean hs [] g h = tt
global_clean hs (v ∷ vs) zero h = h.0
global_clean hs (v ∷ vs) (suc g) h = global_clean hs vs g h.1

either_clean : (hs : Marks) (b : Bool) (xs ys : List Cell) → CleanCells hs xs → CleanCells hs ys → CleanCells hs (cond b xs ys)
either_clean hs true xs ys h k = h
either_clean hs false xs ys h k = k

address_clean : (hs : Marks) (o : Option Value) (offset : ℕ) → IfClean hs o → CleanCells hs (address_cells o offset)
address_clean hs None offset h = clean_blanks hs 8
address_clean hs (Some (Integer n)) offset h = clean_blanks hs 8
address_clean hs (Some (Pointer b o)) offset h = clean_parts hs (Pointer b ((o + offset) % 2 ^ 64)) h
address_clean hs (Some (Function f)) offset h =
    either_clean hs (nat_eq offset 0) (parts (Function f)) (replicate 8 Blank) (clean_parts hs (Function f) tt) (clean_blanks hs 8)

items_clean : (hs : Marks) (globals : List Value) (size : Size) (items : List Item) → CleanAll hs globals → ItemsHaveBytes items → CleanCells hs (flat_map (item_cells globals size) items)
items_clean hs globals size [] g h = tt
items_clean hs globals size (Int n ∷ items) g h =
    clean_both hs (item_cells globals size (Int n)) (flat_map (item_cells globals size) items) (clean_bytes hs (byte_count size) n) (items_clean hs globals size items g h)
items_clean hs globals size (Bytes bytes ∷ items) g h =
    clean_both hs (map Plain bytes) (flat_map (item_cells globals size) items) (plain_clean hs bytes h.0) (items_clean hs globals size items g h.1)
items_clean hs globals size (Address s offset ∷ items) g h =
    clean_both hs (address_cells (slice_get globals s) offset) (flat_map (item_cells globals size) items)
    (address_clean hs (slice_get globals s) offset (global_clean hs globals s g)) (items_clean hs globals size items g h)

zeros_clean : (hs : Marks) (n : ℕ) → CleanCells hs (replicate n (Plain 0))
zeros_clean hs zero = tt
zeros_clean hs (suc n) = (lit< tt, zeros_clean hs n)

fields_clean : (hs : Marks) (globals : List Value) (fields : List Field) → CleanAll hs globals → FieldsHaveBytes fields → CleanCells hs (flat_map (field_cells globals) fields)
fields_clean hs globals [] g h = tt
fields_clean hs globals (Items size items ∷ fields) g h =
    clean_both hs (flat_map (item_cells globals size) items) (flat_map (field_cells globals) fields) (items_clean hs globals size items g h.0) (fields_clean hs globals fields g h.1)
fields_clean hs globals (Zeros n ∷ fields) g h =
    clean_both hs (replicate n (Plain 0)) (flat_map (field_cells globals) fields) (zeros_clean hs n) (fields_clean hs globals fields g h)

-- all blocks are clean
abbrev AllClean : Marks → Memory → Type 0
AllClean hs [] = Unit {0}
AllClean hs (x ∷ m) = IfCleanCells hs x × AllClean hs m

clean_there : (hs : Marks) (m : Memory) (b : ℕ) (x : Option (List Cell)) → AllClean hs m → slice_get m b ≡ Some x → IfCleanCells hs x
clean_there hs [] b x h e = absurd (let no : ⊥ = cc in no)
clean_there hs (y ∷ m) zero x h e = let same : y ≡ x = cc in subst (IfCleanCells hs) same h.0
clean_there hs (y ∷ m) (suc b) x h e = clean_there hs m b x h.1 e

both_clean : (hs : Marks) (m n : Memory) → AllClean hs m → AllClean hs n → AllClean hs (m ++ n)
both_clean hs [] n h k = k
both_clean hs (x ∷ m) n h k = (h.0, both_clean hs m n h.1 k)

objects_clean : (p : Program) (hs : Marks) (ds : List (InText DataDef)) → NamesClean p hs → ObjectsHaveBytes ds → AllClean hs (map (λ (d : InText DataDef). Some (object_cells p d)) ds)
objects_clean p hs [] names h = tt
objects_clean p hs (d ∷ ds) names h = (fields_clean hs (globals_of p d.text) d.item.fields (names d.text) h.0, objects_clean p hs ds names h.1)

closed_clean : (hs : Marks) (bs : List ℕ) → AreBytes bs → CleanCells hs (map Plain (bs ++ 0 ∷ []))
closed_clean hs [] h = (lit< tt, tt)
closed_clean hs (b ∷ bs) h = (h.0, closed_clean hs bs h.1)

words_clean : (hs : Marks) (words : List (List ℕ)) → AreWords words → AllClean hs (map (λ (w : List ℕ). Some (word_cells w)) words)
words_clean hs [] h = tt
words_clean hs (word ∷ words) h = (closed_clean hs word h.0, words_clean hs words h.1)

pointers_clean : (n b k : ℕ) → b + k ≤ n → CleanCells (replicate n false) (pointers_from b k)
pointers_clean n b zero le = tt
pointers_clean n b (suc k) le =
    clean_both (replicate n false) (parts (Pointer b 0)) (pointers_from (b + 1) k) (clean_parts (replicate n false) (Pointer b 0) (unmarked n b (omega arith)))
    (pointers_clean n (b + 1) k (omega arith))

start_long : (p : Program) (words : List (List ℕ)) → length (start_memory p words) ≡ length p.objects + (length words + 1)
start_long p words =
    length-append (map (λ (d : InText DataDef). Some (object_cells p d)) p.objects) (map (λ (w : List ℕ). Some (word_cells w)) words ++ Some (list_cells (length p.objects) (length words)) ∷ [])
    ∙ (ap (λ n. n + length (map (λ (w : List ℕ). Some (word_cells w)) words ++ Some (list_cells (length p.objects) (length words)) ∷ [])) (length-map p.objects (λ (d : InText DataDef). Some (object_cells p d)))
    ∙ ap (λ n. length p.objects + n)
    (length-append (map (λ (w : List ℕ). Some (word_cells w)) words) (Some (list_cells (length p.objects) (length words)) ∷ [])
    ∙ ap (λ n. n + 1) (length-map words (λ (w : List ℕ). Some (word_cells w)))))

abbrev start_marks : Program → List (List ℕ) → Marks
start_marks p words = replicate (length (start_memory p words)) false

names_start : (p : Program) (words : List (List ℕ)) → HasBytes p words → NamesClean p (start_marks p words)
names_start p words h t =
    let long = start_long p words in
    option_clean (length (start_memory p words)) (length p.objects) (slice_get p.targets t) (omega (arith, long)) (h.names t)

all_stay : (n : ℕ) (vs : List Value) → AllStay (replicate n false) vs
all_stay n [] = tt
all_stay n (v ∷ vs) = (moved_none n v, all_stay n vs)

all_moved : (n : ℕ) (vs : List Value) → map (moved (replicate n false)) vs ≡ vs
all_moved n [] = refl
all_moved n (v ∷ vs) = ap (λ u. u ∷ map (moved (replicate n false)) vs) (moved_none n v) ∙ ap (λ r. v ∷ r) (all_moved n vs)

start_clean : (p : Program) (words : List (List ℕ)) → HasBytes p words → CleanMemory (start_marks p words) (start_memory p words)
start_clean p words h b x e =
    let long = start_long p words in
    let hs = start_marks p words in
    clean_there hs (start_memory p words) b x
    (both_clean hs (map (λ (d : InText DataDef). Some (object_cells p d)) p.objects) (map (λ (w : List ℕ). Some (word_cells w)) words ++ Some (list_cells (length p.objects) (length words)) ∷ [])
    (objects_clean p hs p.objects (names_start p words h) h.data_bytes)
    (both_clean hs (map (λ (w : List ℕ). Some (word_cells w)) words) (Some (list_cells (length p.objects) (length words)) ∷ []) (words_clean hs words h.word_bytes) (
      clean_both hs (pointers_from (length p.objects) (length words)) (replicate 8 (Plain 0))
          (pointers_clean (length (start_memory p words)) (length p.objects) (length words) (omega (arith, long))) (zeros_clean hs 8),
      tt,
    )))

main_clean : (p : Program) (words : List (List ℕ)) → HasBytes p words → (ps : List Param) → CleanAll (start_marks p words) (main_args (length p.objects) (length words) ps)
main_clean p words h [] = tt
main_clean p words h (x ∷ ps) =
    let long = start_long p words in
    (h.count, (unmarked (length (start_memory p words)) (length p.objects + length words) (omega (arith, long)), tt))

-- ---- the whole

start_of : (List (List Target)) → List (InText DataDef) → List (List ℕ) → Memory
start_of targets objects words =
    map (λ (d : InText DataDef). Some (flat_map (field_cells (values_of (slice_get targets d.text))) d.item.fields)) objects
    ++ (map (λ (w : List ℕ). Some (word_cells w)) words ++ Some (list_cells (length objects) (length words)) ∷ [])

start_same : (p q : Program) (words : List (List ℕ)) → IsProgramPromoted p q → start_memory q words ≡ start_memory p words
unfolding start_of
start_same p q words both =
    ap (λ ts. start_of ts q.objects words) both.targets ∙ ap (λ ds. start_of p.targets ds words) both.objects

params_by : (x y : Option (InText Func)) → AtBoth x y → params_of y ≡ params_of x
params_by None y h = ap params_of h
params_by (Some x) y h = ap params_of h.1 ∙ h.3.params

params_same : (p q : Program) → IsProgramPromoted p q → params_of (slice_get q.functions q.main) ≡ params_of (slice_get p.functions p.main)
params_same p q both =
    ap (λ k. params_of (slice_get q.functions k)) both.main
    ∙ params_by (slice_get p.functions p.main) (slice_get q.functions p.main) (at_both p.functions q.functions p.main both.functions)

abbrev main_with : ℕ → ℕ → ℕ → List Param → Call
main_with main objects words params = record { callee = Defined main; classes = main_classes params; wants = Some W; args = main_args objects words params }

main_same : (p q : Program) (words : List (List ℕ)) → IsProgramPromoted p q → main_call q words ≡ main_call p words
main_same p q words both =
    ap (λ k. main_with k (length q.objects) (length words) (params_of (slice_get q.functions q.main))) both.main
    ∙ (ap (λ ds. main_with p.main (length ds) (length words) (params_of (slice_get q.functions q.main))) both.objects
    ∙ ap (main_with p.main (length p.objects) (length words)) (params_same p q both))

same_ended : (s : Spent) (e : End) (o : Outcome) → EndedSo s e o → SameOutcome (Ended s e) o
same_ended s (Exit n) o h = h
same_ended s Halt o h = h
same_ended s Undefined o h = tt
same_ended s Stack o h = tt
same_ended s Turns o h = h

end_moved : (hs : Marks) (v : Option Value) → end_of (moved_if hs v) ≡ end_of v
end_moved hs None = refl
end_moved hs (Some (Integer n)) = refl
end_moved hs (Some (Pointer b o)) = refl
end_moved hs (Some (Function f)) = refl

same_so : (hs : Marks) (m : Memory) (o p : Outcome) → OutcomeSo hs m o p → SameOutcome o p
same_so hs m (Returned s v now) p h = (moved_if h.marks v, shown h.marks now, h.is, end_moved h.marks v)
same_so hs m (Ended s e) p h = same_ended s e p h

abbrev called_with : Call → List Value → Call
called_with call vs = record call { args = vs }

pub outcome_stays : (p q : Program) (words : List (List ℕ)) (n : ℕ) → IsProgramPromoted p q → HasBytes p words → SameOutcome (outcome p words n) (outcome q words n)
unfolding outcome
outcome_stays p q words n both h =
    let hs = start_marks p words in
    let m = start_memory p words in
    let same : shown hs m ≡ start_memory q words = nothing_hidden m ∙ sym (start_same p q words both) in
    let call : moved_call hs (main_call p words) ≡ main_call q words =
    ap (λ vs. called_with (main_call p words) vs) (all_moved (length m) (main_call p words).args) ∙ sym (main_same p q words both) in
    subst (λ x. SameOutcome (outcome p words n) (callees q (suc n) (main_call q words) n stack_room x)) same
    (subst (λ call. SameOutcome (outcome p words n) (callees q (suc n) call n stack_room (shown hs m))) call
    (same_so hs m (callees p (suc n) (main_call p words) n stack_room m) (callees q (suc n) (moved_call hs (main_call p words)) n stack_room (shown hs m))
    (callees_so p q hs both (names_start p words h) (λ t. all_stay (length m) (globals_of p t)) (suc n) (main_call p words) n stack_room stack_room hs m (omega arith) (λ b x e. e)
    (length-replicate (length m) false) (start_clean p words h) (main_clean p words h (params_of (slice_get p.functions p.main))))))

abbrev behaving : List ℕ → End → Behaviour
behaving output ending = record { output = output; ending = ending }

same_behaviour : (o p : Outcome) → SameOutcome o p → ((behaviour_of o).ending ≡ Undefined → ⊥) → ((behaviour_of o).ending ≡ Stack → ⊥) → behaviour_of p ≡ behaviour_of o
same_behaviour (Returned s v m) p h defined enough = ap behaviour_of h.2 ∙ ap (behaving s.output) h.3
same_behaviour (Ended s (Exit n)) p h defined enough = ap behaviour_of h
same_behaviour (Ended s Halt) p h defined enough = ap behaviour_of h
same_behaviour (Ended s Undefined) p h defined enough = absurd (defined refl)
same_behaviour (Ended s Stack) p h defined enough = absurd (enough refl)
same_behaviour (Ended s Turns) p h defined enough = ap behaviour_of h

pub meaning_stays : (p q : Program) (words : List (List ℕ)) (n : ℕ) → IsProgramPromoted p q → HasBytes p words → ((meaning p words n).ending ≡ Undefined → ⊥) → ((meaning p words n).ending ≡ Stack → ⊥) → meaning q words n ≡ meaning p words n
unfolding meaning
meaning_stays p q words n both h defined enough = same_behaviour (outcome p words n) (outcome q words n) (outcome_stays p q words n both h) defined enough
