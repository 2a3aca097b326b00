-- Code without dead lines follows the code, where the registers that are wanted hold the same: a dead line is gone, any other is beside one.
use Rattle.std.proofs.Common.{◌≡◌, ℕ, Bool, true, false, not, ◌&&◌, ◌||◌, nat_eq, if◌then◌else◌, List, [], ◌∷◌, map, Option, Some, None, slice_get, refl, sym, ◌∙◌, ap, option_and_then}
use Rattle.std.specs.List.{list_any}
use Rattle.std.proofs.lemmas.Bool.{and_from, not-true, or_left, or_right}
use Rattle.bitset.specs.Bits.{Bits}
use Rattle.il_ast.specs.declared.value.Value.{Value}
use Rattle.il_ast.specs.Prelude.{KeepsCode}
use Rattle.vcode.specs.declared.place.Operand.{Operand}
use Rattle.vcode.specs.declared.place.Operand.TheVariants.{At, Number, Name}
use Rattle.vcode.specs.declared.place.Argument.{Argument}
use Rattle.vcode.specs.declared.line.Line.{Line}
use Rattle.vcode.specs.declared.line.Line.TheVariants.{Tick, Set, Operate, Load, Store, Alloc, Blit, Call}
use Rattle.vcode.specs.declared.line.Jump.{Jump}
use Rattle.vcode.specs.declared.line.Jump.TheVariants.{Goto, Branch, Return, Halt}
use Rattle.vcode.specs.declared.code.Code.{Code}
use Rattle.vcode.specs.Prelude.{with_these, loaded, Values, virtual, classes_in, begin, value_of, operated, address_of, step, line_writes, given, act, written, Claims, OnlyGives, Alike, MayGo, LeadAlike, Follows, Jumps, Both, Gone, Less, Rewrites}
use Rattle.vcode.proofs.Alike.{lines_alike}
use Rattle.vcode.proofs.SameActs.{ArgumentsRead, Reads, JumpReads, act_agrees}
use Rattle.vcode.proofs.Writing.{is_written, Agree, written_agree, unlike, first_writes}
use Rattle.vcode.proofs.Leading.{LeadsTo, Arriving, jump_itself_alike, leads_more}
use Rattle.vcode.proofs.Rewriting.{rewrites_keep}
use Rattle.dead_code.specs.Without.{Wanted, is_dead, names_it, reads_it, writes_it, wanted_above, wanted_at, as_wanted, kept_lines, held, wanted_behind, kept_block, Closed}
use Rattle.il_ast.proofs.Truth.{equals_itself}
use Rattle.il_ast.proofs.Listed.{get_mapped}

-- what is wanted has the same values; at the beginning of a block that is all that is wanted there
abbrev claims : ℕ → List Bits → Claims
claims n starts =
    record {
      Claim = Wanted;
      holds = λ w globals memory before after. Agree w before after;
      arrives = λ w k j. (j ≡ k) × ((r : ℕ) → held n starts k r ≡ true → w r ≡ true);
    }

-- ---- what is read

-- an operand has the same value in both
abbrev HasSame : List Value → (before after : Values ℕ) → Operand ℕ → Type 0
HasSame globals ev el a = value_of globals el a ≡ value_of globals ev a

value_same : (globals : List Value) (ev el : Values ℕ) (a : Operand ℕ) → Agree (names_it a) ev el → HasSame globals ev el a
value_same globals ev el (At p) h = h p (equals_itself p)
value_same globals ev el (Number n) h = refl
value_same globals ev el (Name g) h = refl

two_read : (globals : List Value) (ev el : Values ℕ) (a b : Operand ℕ) → Agree (λ r. names_it a r || names_it b r) ev el → HasSame globals ev el a × HasSame globals ev el b
two_read globals ev el a b h = (
  value_same globals ev el a (λ r e. h r (or_left (names_it a r) (names_it b r) e)),
  value_same globals ev el b (λ r e. h r (or_right (names_it a r) (names_it b r) e)),
)

args_read : (globals : List Value) (ev el : Values ℕ) (args : List (Argument ℕ)) → Agree (λ r. list_any (λ (a : Argument ℕ). names_it a.value r) args) ev el → ArgumentsRead (HasSame globals ev el) args
args_read globals ev el [] h = tt
args_read globals ev el (a ∷ args) h = (
  value_same globals ev el a.value (λ r e. h r (or_left (names_it a.value r) (list_any (λ (b : Argument ℕ). names_it b.value r) args) e)),
  args_read globals ev el args (λ r e. h r (or_right (names_it a.value r) (list_any (λ (b : Argument ℕ). names_it b.value r) args) e)),
)

line_read : (globals : List Value) (ev el : Values ℕ) (l : Line ℕ) → Agree (reads_it l) ev el → Reads (HasSame globals ev el) l
line_read globals ev el (Tick turn w) h = tt
line_read globals ev el (Set to a) h = value_same globals ev el a h
line_read globals ev el (Operate to op a b) h = two_read globals ev el a b h
line_read globals ev el (Load to op at) h = value_same globals ev el at.base h
line_read globals ev el (Store size a at) h = two_read globals ev el a at.base h
line_read globals ev el (Alloc to size) h = tt
line_read globals ev el (Blit from to count) h = two_read globals ev el from to h
line_read globals ev el (Call to callee args) h = (
  value_same globals ev el callee (λ r e. h r (or_left (names_it callee r) (list_any (λ (a : Argument ℕ). names_it a.value r) args) e)),
  args_read globals ev el args (λ r e. h r (or_right (names_it callee r) (list_any (λ (a : Argument ℕ). names_it a.value r) args) e)),
)

-- ---- a line that stays

-- what doesn't ask where a block of memory has its address
abbrev pub Unnamed : {X : Type 0} → (Line ℕ → X) → Type 0
Unnamed f = (to : Option ℕ) (size : ℕ) → f (Alloc to size) ≡ f (Alloc None size)

pub same_as_wanted : {X : Type 0} (f : Line ℕ → X) → Unnamed f → (w : Wanted) (l : Line ℕ) → f (as_wanted w l) ≡ f l
same_as_wanted f un w (Tick turn x) = refl
same_as_wanted f un w (Set to a) = refl
same_as_wanted f un w (Operate to op a b) = refl
same_as_wanted f un w (Load to op at) = refl
same_as_wanted f un w (Store size a at) = refl
same_as_wanted f un w (Alloc None size) = refl
same_as_wanted f un w (Alloc (Some to) size) = un (if w to then Some to else None) size ∙ sym (un (Some to) size)
same_as_wanted f un w (Blit a b count) = refl
same_as_wanted f un w (Call to callee args) = refl

-- a register that isn't wanted isn't written, or as before
chosen_agree : (w : Wanted) (to : ℕ) (o : Option Value) (ev el : Values ℕ) (b : Bool) → w to ≡ b → Agree (λ r. w r && not (is_written (Some to) r)) ev el
    → Agree w (written (Some to) o ev) (written (if b then Some to else None) o el)
chosen_agree w to o ev el true is agrees = written_agree w (Some to) o ev el agrees
chosen_agree w to o ev el false is agrees =
    first_writes w to o ev el is (λ r e. agrees r (and_from (w r) (not (nat_eq to r)) e (ap not (unlike w to r is e))))

written_as_wanted : (w : Wanted) (l : Line ℕ) (o : Option Value) (ev el : Values ℕ) → Agree (λ r. w r && not (writes_it l r)) ev el → Agree w (written (line_writes l) o ev) (written (line_writes (as_wanted w l)) o el)
written_as_wanted w (Tick turn x) o ev el agrees = written_agree w None o ev el agrees
written_as_wanted w (Set to a) o ev el agrees = written_agree w (Some to) o ev el agrees
written_as_wanted w (Operate to op a b) o ev el agrees = written_agree w (Some to) o ev el agrees
written_as_wanted w (Load to op at) o ev el agrees = written_agree w (Some to) o ev el agrees
written_as_wanted w (Store size a at) o ev el agrees = written_agree w None o ev el agrees
written_as_wanted w (Alloc None size) o ev el agrees = written_agree w None o ev el agrees
written_as_wanted w (Alloc (Some to) size) o ev el agrees = chosen_agree w to o ev el (w to) refl agrees
written_as_wanted w (Blit from to count) o ev el agrees = written_agree w None o ev el agrees
written_as_wanted w (Call to callee args) o ev el agrees = written_agree w (line_writes (Call to callee args)) o ev el agrees

reads_agree : (w : Wanted) (l : Line ℕ) (ev el : Values ℕ) → Agree (wanted_above w l) ev el → Agree (reads_it l) ev el
reads_agree w l ev el h r e = h r (or_right (w r && not (writes_it l r)) (reads_it l r) e)

above_agrees : (w : Wanted) (l : Line ℕ) (ev el : Values ℕ) → Agree (wanted_above w l) ev el → Agree (λ r. w r && not (writes_it l r)) ev el
above_agrees w l ev el h r e = h r (or_left (w r && not (writes_it l r)) (reads_it l r) e)

line_stays : (n : ℕ) (starts : List Bits) (w : Wanted) (l : Line ℕ) → Alike (claims n starts) (wanted_above w l) w l (as_wanted w l)
line_stays n starts w l globals memory ev el agrees =
    lines_alike (λ next before after. Agree w before after) globals memory ev el l (as_wanted w l)
    (λ works. same_as_wanted (act globals memory el) (λ to size. refl) w l ∙ act_agrees globals memory ev el l (line_read globals ev el l (reads_agree w l ev el agrees)))
    (λ o next may. written_as_wanted w l o ev el (above_agrees w l ev el agrees))

-- ---- a dead line

given_only : (holds : Option Value → Type 0) → ((o : Option Value) → holds o) → (o : Option Value) → OnlyGives holds (given o)
given_only holds all None = tt
given_only holds all (Some v) = all (Some v)

line_goes : (n : ℕ) (starts : List Bits) (w : Wanted) (l : Line ℕ) → is_dead w l ≡ true → MayGo (claims n starts) w w l
line_goes n starts w (Set to a) dead globals memory ev el agrees = first_writes w to (value_of globals ev a) ev el (not-true (w to) dead) agrees
line_goes n starts w (Operate to op a b) dead globals memory ev el agrees =
    first_writes w to (operated memory op (value_of globals ev a) (value_of globals ev b)) ev el (not-true (w to) dead) agrees
line_goes n starts w (Load to op at) dead globals memory ev el agrees =
    given_only (λ o. Agree w (written (Some to) o ev) el) (λ o. first_writes w to o ev el (not-true (w to) dead) agrees) (option_and_then (loaded memory op) (address_of globals memory ev at))
line_goes n starts w (Tick turn x) dead globals memory ev el agrees = absurd (let no : ⊥ = cc in no)
line_goes n starts w (Store size a at) dead globals memory ev el agrees = absurd (let no : ⊥ = cc in no)
line_goes n starts w (Alloc to size) dead globals memory ev el agrees = absurd (let no : ⊥ = cc in no)
line_goes n starts w (Blit from to count) dead globals memory ev el agrees = absurd (let no : ⊥ = cc in no)
line_goes n starts w (Call to callee args) dead globals memory ev el agrees = absurd (let no : ⊥ = cc in no)

-- ---- the code follows

module _ (n : ℕ) (starts : List Bits) where
  jump_read : (globals : List Value) (ev el : Values ℕ) (j : Jump ℕ) → Agree (wanted_behind n starts j) ev el → JumpReads (HasSame globals ev el) j
  jump_read globals ev el (Goto k) h = tt
  jump_read globals ev el (Branch on met otherwise) h = (
    value_same globals ev el on.left
        (λ r e. h r (or_left ((held n starts met r || held n starts otherwise r) || names_it on.left r) (names_it on.right r) (or_right (held n starts met r || held n starts otherwise r) (names_it on.left r) e))),
    value_same globals ev el on.right
        (λ r e. h r (or_right ((held n starts met r || held n starts otherwise r) || names_it on.left r) (names_it on.right r) e)),
  )
  jump_read globals ev el (Return None) h = tt
  jump_read globals ev el (Return (Some a)) h = value_same globals ev el a.value h
  jump_read globals ev el Halt h = tt

  targets_wanted : (j : Jump ℕ) → LeadsTo (λ k. (r : ℕ) → held n starts k r ≡ true → wanted_behind n starts j r ≡ true) j
  targets_wanted (Goto k) = λ r e. e
  targets_wanted (Branch on met otherwise) = (
    λ r e. or_left ((held n starts met r || held n starts otherwise r) || names_it on.left r) (names_it on.right r)
        (or_left (held n starts met r || held n starts otherwise r) (names_it on.left r) (or_left (held n starts met r) (held n starts otherwise r) e)),
    λ r e. or_left ((held n starts met r || held n starts otherwise r) || names_it on.left r) (names_it on.right r)
        (or_left (held n starts met r || held n starts otherwise r) (names_it on.left r) (or_right (held n starts met r) (held n starts otherwise r) e)),
  )
  targets_wanted (Return a) = tt
  targets_wanted Halt = tt

  module _ (v d : Code ℕ) where
    jump_stays : (j : Jump ℕ) → LeadAlike (claims n starts) v.result (wanted_behind n starts j) j j
    jump_stays j globals memory ev el agrees =
        jump_itself_alike (claims n starts) globals memory ev el v.result j (jump_read globals ev el j agrees)
        (leads_more (λ k. (r : ℕ) → held n starts k r ≡ true → wanted_behind n starts j r ≡ true) (Arriving (claims n starts) globals memory ev el (λ k. k))
        (λ k more. (wanted_behind n starts j, ((refl, more), agrees))) j (targets_wanted j))

    lines_follow : (lines : List (Line ℕ)) (j : Jump ℕ) → Follows (claims n starts) v d (wanted_at (wanted_behind n starts j) lines) lines j (kept_lines (wanted_behind n starts j) lines) j
    lines_follow [] j = Jumps (jump_stays j)
    lines_follow (l ∷ lines) j = by (is_dead w l) refl (lines_follow lines j)
      where
        out : Wanted
        out = wanted_behind n starts j

        w : Wanted
        w = wanted_at out lines

        by : (b : Bool) → is_dead w l ≡ b → Follows (claims n starts) v d w lines j (kept_lines out lines) j
            → Follows (claims n starts) v d (if b then w else wanted_above w l) (l ∷ lines) j (if b then kept_lines out lines else as_wanted w l ∷ kept_lines out lines) j
        by true e rest = Gone (line_goes n starts w l e) rest
        by false e rest = Both (line_stays n starts w l) rest

  rewrites : (v : Code ℕ) → Closed n starts v.blocks → Rewrites (claims n starts) v (with_these v (map (kept_block n starts) v.blocks))
  rewrites v closed =
      record {
        result = refl;
        first = λ r. true;
        arrives = (refl, λ r e. refl);
        begins = λ globals i args r e. refl;
        follows = λ w k j arrives b at. (
          kept_block n starts b,
          (
            ap (slice_get (map (kept_block n starts) v.blocks)) arrives.0 ∙ get_mapped (kept_block n starts) v.blocks k b at,
            Less (λ globals memory ev el agrees r e. agrees r (arrives.1 r (closed k b at r e))) (lines_follow v (with_these v (map (kept_block n starts) v.blocks)) b.lines b.jump),
          ),
        );
      }

  pub runs : (v : Code ℕ) → Closed n starts v.blocks → (globals : List Value)
      → KeepsCode (classes_in v.params) (begin virtual v) (step virtual globals v) (begin virtual (with_these v (map (kept_block n starts) v.blocks)))
      (step virtual globals (with_these v (map (kept_block n starts) v.blocks)))
  runs v closed globals = rewrites_keep (claims n starts) v (with_these v (map (kept_block n starts) v.blocks)) (rewrites v closed) globals
