-- The code on bytes beside the code on blocks: how their states are related, and lines that go on to the next one.
use Rattle.std.proofs.Common.{◌≡◌, ℕ, ◌+◌, ◌<◌, ◌≤◌, Bool, true, false, if◌then◌else◌, drop, slice_get, Option, Some, None, refl, sym, ◌∙◌, ap, subst, nat_lt, sum_by, option_and_then}
use Rattle.il_ast.specs.declared.value.Value.{Value}
use Rattle.il_ast.specs.declared.value.End.TheVariants.{Turns}
use Rattle.il_ast.specs.Prelude.{Memory, Spent, one_turn, both, Outcome, Ended, Over, Event, Does, Asked, Given}
use Rattle.vcode.specs.declared.place.Location.{Location}
use Rattle.vcode.specs.declared.code.Block.{Block}
use Rattle.vcode.specs.declared.code.Code.{Code}
use Rattle.vcode.specs.Prelude.{located, IsRegular, alloc_bytes, area, State, weighs, goes_on, sets, takes, changes, ticks}
use Rattle.flat_code.specs.Flat.{Spots, Bases, Entries, Grown, Shows, AllShow, FlatGiven, FlatAsked, FlatOutcome, FlatEnded, ShowsGiven, Frame, Names}
use Rattle.flat_code.specs.Step.{put, FlatState, goes_on as flat_goes_on, sets as flat_sets, changes as flat_changes, ticks as flat_ticks}
use Rattle.flat_code.proofs.Playing.{Beside}
use Rattle.flat_code.proofs.Shown.{Follows, AllFollow, put_follows, all_grown}
use Rattle.flat_code.proofs.Changing.{Changed, MemoryFollows}
use Rattle.flat_code.proofs.Owning.{Ground, IsGround, IsHeld, held_later}
use Rattle.std.proofs.lemmas.Option.{same_Some, none-some}

-- ---- what stays

-- a code, the names that it uses, what of the stack is for calls and where its blocks begin, and what it is given
pub record Setting : Type 0 where
  pub code : Code Location
  pub names : Names
  pub low : ℕ
  pub high : ℕ
  pub base : ℕ
  pub given : Given
  pub shown : FlatGiven
  pub bases : Bases

abbrev pub ground : Setting → Ground
ground c =
    record { entries = c.names.entries; base = c.base; size = area c.code; bases = c.bases; made = c.given.memory; before = c.shown.memory }

abbrev pub frame : Setting → Frame
frame c =
    record {
      entries = c.names.entries;
      low = c.low;
      high = c.high;
      room = c.given.room;
      result = c.code.result;
      before = c.shown.memory;
      made = c.given.memory;
    }

pub record IsSetting (c : Setting) : Type 0 where
  pub regular : IsRegular c.code
  pub calls_below : c.high ≤ c.base
  pub some_below : c.low < c.base
  pub grounded : IsGround (ground c)
  pub names : AllShow c.names.entries c.bases c.names.globals c.names.addresses
  pub shows : ShowsGiven c.names.entries c.bases c.low (c.base + area c.code) c.given c.shown

-- ---- states

-- the rest of the first block has room for its blocks of memory, from this line on
abbrev pub HasRoom : Setting → (block next used : ℕ) → Type 0
HasRoom c block next used =
    (b : Block Location) → block ≡ 0 → slice_get c.code.blocks 0 ≡ Some b → used + sum_by alloc_bytes (drop next b.lines) ≤ area c.code

pub record Related (c : Setting) (p : Bases) (s : State Location) (t : FlatState) : Type 0 where
  pub block : t.block ≡ s.block
  pub next : t.next ≡ s.next
  pub spent : t.spent ≡ s.spent
  pub follow : AllFollow c.names.entries p s.values t.numbers
  pub held : IsHeld (ground c) p s.memory s.owned t.memory t.used
  pub room : HasRoom c s.block s.next t.used

abbrev pub Together : Setting → Bases → Event (State Location) Asked Outcome → Event FlatState FlatAsked FlatOutcome → Type 0
Together c p e f = Beside (frame c) (Related c) p e f

pub same_bases : (p : Bases) → Grown p p
same_bases p b a h = h

pub names_shown : (c : Setting) → IsSetting c → (p : Bases) (s : State Location) (t : FlatState) → Related c p s t → AllShow c.names.entries p c.names.globals c.names.addresses
names_shown c is p s t r = all_grown c.names.entries c.bases p r.held.grown c.names.globals c.names.addresses is.names

-- ---- on to the next line

pub sets_together : (c : Setting) (p : Bases) (s : State Location) (t : FlatState) (to : Location) (o : Option Value) (n : Option ℕ) → Related c p s t → HasRoom c s.block (s.next + 1) t.used → Follows c.names.entries p o n
    → Together c p (sets located s to o) (flat_sets t to n)
sets_together c p s t to None n r room follows = λ fine. absurd fine
sets_together c p s t to (Some v) n r room follows =
    let a = follows v refl in
    subst (λ (m : Option ℕ). Together c p (sets located s to (Some v)) (flat_sets t to m)) (sym a.1) (
      record t { next = t.next + 1; numbers = put to (Some a.0) t.numbers },
      refl,
      (
        p,
        same_bases p,
        record {
          block = r.block;
          next = ap (λ k. k + 1) r.next;
          spent = r.spent;
          follow = put_follows c.names.entries p s.values t.numbers to (Some v) (Some a.0) r.follow (λ w is. (a.0, refl, subst (λ (u : Value). Shows c.names.entries p u a.0) (same_Some v w is) a.2));
          held = r.held;
          room = room;
        },
      ),
    )

pub takes_together : (c : Setting) (p : Bases) (s : State Location) (t : FlatState) (to : Location) (o : Option Value) (n : Option ℕ) → Related c p s t → HasRoom c s.block (s.next + 1) t.used → Follows c.names.entries p o n
    → Together c p (takes located s to o) (flat_goes_on (record t { numbers = put to n t.numbers }))
takes_together c p s t to o n r room follows = (
  record t { next = t.next + 1; numbers = put to n t.numbers },
  refl,
  (
    p,
    same_bases p,
    record {
      block = r.block;
      next = ap (λ k. k + 1) r.next;
      spent = r.spent;
      follow = put_follows c.names.entries p s.values t.numbers to o n r.follow follows;
      held = r.held;
      room = room;
    },
  ),
)

pub changes_together : (c : Setting) (p : Bases) (s : State Location) (t : FlatState) (o : Option Memory) (n : Option Spots) → Related c p s t → HasRoom c s.block (s.next + 1) t.used
    → MemoryFollows c.names.entries p s.memory t.memory o n → Together c p (changes s o) (flat_changes t n)
changes_together c p s t None n r room follows = λ fine. absurd fine
changes_together c p s t (Some m) n r room follows =
    let a = follows m refl in
    let changed : Changed c.names.entries p s.memory t.memory m a.0 = a.2 in
    subst (λ (x : Option Spots). Together c p (changes s (Some m)) (flat_changes t x)) (sym a.1) (
      record t { next = t.next + 1; memory = a.0 },
      refl,
      (
        p,
        same_bases p,
        record {
          block = r.block;
          next = ap (λ k. k + 1) r.next;
          spent = r.spent;
          follow = r.follow;
          held = held_later (ground c) p p s.memory m s.owned t.memory a.0 t.used r.held (same_bases p) changed.memory changed.reach changed.sizes;
          room = room;
        },
      ),
    )

spends_together : (c : Setting) (p : Bases) (s : State Location) (t : FlatState) (w : Spent) → Related c p s t → HasRoom c s.block (s.next + 1) t.used
    → Together c p (goes_on (record s { spent = both s.spent w })) (flat_goes_on (record t { spent = both t.spent w }))
spends_together c p s t w r room = (
  record t { next = t.next + 1; spent = both t.spent w },
  refl,
  (
    p,
    same_bases p,
    record { block = r.block; next = ap (λ k. k + 1) r.next; spent = ap (λ (u : Spent). both u w) r.spent; follow = r.follow; held = r.held; room = room },
  ),
)

pub ticks_together : (c : Setting) → IsSetting c → (p : Bases) (s : State Location) (t : FlatState) (turn : Bool) (w : ℕ) → Related c p s t → HasRoom c s.block (s.next + 1) t.used
    → Together c p (ticks c.given s turn w) (flat_ticks c.shown t turn w)
ticks_together c is p s t false w r room = spends_together c p s t (weighs w) r room
ticks_together c is p s t true w r room =
    subst (λ (b : Bool). Together c p (ticks c.given s true w) (if b then flat_goes_on (record t { spent = both t.spent (one_turn w) }) else Does (Over (FlatEnded t.spent Turns)))) (sym same)
    (by_test (nat_lt s.spent.turns c.given.turns))
  where
    same : nat_lt t.spent.turns c.shown.turns ≡ nat_lt s.spent.turns c.given.turns
    same = ap (λ (u : Spent). nat_lt u.turns c.shown.turns) r.spent ∙ ap (nat_lt s.spent.turns) is.shows.turns

    by_test : (b : Bool)
        → Together c p (if b then goes_on (record s { spent = both s.spent (one_turn w) }) else Does (Over (Ended s.spent Turns)))
        (if b then flat_goes_on (record t { spent = both t.spent (one_turn w) }) else Does (Over (FlatEnded t.spent Turns)))
    by_test true = spends_together c p s t (one_turn w) r room
    by_test false = λ fine. (FlatEnded t.spent Turns, refl, (p, same_bases p, (r.spent, refl)))

-- ---- operands of a change of memory

pub memory_then : (e : Entries) (p : Bases) (m : Memory) (f : Spots) (o : Option Value) (n : Option ℕ) (act : Value → Option Memory) (act2 : ℕ → Option Spots) → Follows e p o n
    → ((v : Value) (x : ℕ) → Shows e p v x → MemoryFollows e p m f (act v) (act2 x)) → MemoryFollows e p m f (option_and_then act o) (option_and_then act2 n)
memory_then e p m f None n act act2 h k = λ now is. absurd (none-some now is)
memory_then e p m f (Some v) n act act2 h k = λ now is.
    let a = h v refl in
    let b = k v a.0 a.2 now is in (b.0, ap (option_and_then act2) a.1 ∙ b.1, b.2)
