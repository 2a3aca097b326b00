-- Every regular code on bytes keeps the same code on blocks: their steps go beside each other from the start on.
use Rattle.std.proofs.Common.{◌≡◌, ℕ, ◌+◌, ◌<◌, ◌≤◌, List, [], ◌∷◌, map, drop, length, slice_get, Option, Some, None, refl, sym, subst, arith, sum_by}
use Rattle.std.proofs.lemmas.List.Sums.{sum_by-cons}
use Rattle.il_ast.specs.Prelude.{AreArgs}
use Rattle.vcode.specs.declared.place.Location.{Location}
use Rattle.vcode.specs.declared.line.Line.{Line}
use Rattle.vcode.specs.declared.code.Block.{Block}
use Rattle.vcode.specs.Prelude.{located, unknown, leads_inside, alloc_bytes, State, begin, block_step as values_block_step, step_in as values_step_in, step}
use Rattle.flat_code.specs.Flat.{Bases}
use Rattle.flat_code.specs.Step.{FlatState, flat_begin, block_step, step_in, flat_step}
use Rattle.flat_code.specs.Laws.{RegularIsKept}
use Rattle.flat_code.proofs.Playing.{plays_by}
use Rattle.flat_code.proofs.Shown.{none_follows, bound_follow}
use Rattle.flat_code.proofs.EachLine.{line_together}
use Rattle.flat_code.proofs.Jumping.{jump_together}
use Rattle.flat_code.proofs.Going.{Setting, frame, IsSetting, Related, Together, same_bases}
use Rattle.il_ast.proofs.Listed.{all_at}
use Rattle.std.proofs.lemmas.Option.{same_Some}

-- ---- a step

lines_together : (c : Setting) → IsSetting c → (p : Bases) (s : State Location) (t : FlatState) → Related c p s t → (b : Block Location) → slice_get c.code.blocks s.block ≡ Some b → (l : Option (Line Location)) → slice_get b.lines s.next ≡ l
    → Together c p (values_block_step located c.names.globals c.code c.given s b l) (block_step c.code c.names.addresses c.base c.shown t b l)
lines_together c is p s t r b block (Some l) line = line_together c is p s t l r (record { here = b; block = block; line = line })
lines_together c is p s t r b block None line =
    jump_together c is p s t b.jump r (all_at (λ (d : Block Location). leads_inside (length c.code.blocks) d.jump) c.code.blocks s.block b is.regular.inside block)

blocks_together : (c : Setting) → IsSetting c → (p : Bases) (s : State Location) (t : FlatState) → Related c p s t → (o : Option (Block Location)) → slice_get c.code.blocks s.block ≡ o
    → Together c p (values_step_in located c.names.globals c.code c.given s o) (step_in c.code c.names.addresses c.base c.shown t o)
blocks_together c is p s t r None block = λ fine. absurd fine
blocks_together c is p s t r (Some b) block =
    subst (λ (k : ℕ). Together c p (values_step_in located c.names.globals c.code c.given s (Some b)) (block_step c.code c.names.addresses c.base c.shown t b (slice_get b.lines k))) (sym r.next)
    (lines_together c is p s t r b block (slice_get b.lines s.next) refl)

steps_together : (c : Setting) → IsSetting c → (p : Bases) (s : State Location) (t : FlatState) → Related c p s t → Together c p (step located c.names.globals c.code c.given s) (flat_step c.code c.names.addresses c.base c.shown t)
unfolding step flat_step
steps_together c is p s t r =
    subst (λ (k : ℕ). Together c p (values_step_in located c.names.globals c.code c.given s (slice_get c.code.blocks s.block)) (step_in c.code c.names.addresses c.base c.shown t (slice_get c.code.blocks k))) (sym r.block)
    (blocks_together c is p s t r (slice_get c.code.blocks s.block) refl)

-- ---- the start

first_fits : (blocks : List (Block Location)) (b : Block Location) → slice_get blocks 0 ≡ Some b → 0 + sum_by alloc_bytes (drop 0 b.lines) ≤ sum_by (λ d. sum_by alloc_bytes d.lines) blocks
first_fits [] b found = cc
first_fits (d ∷ blocks) b found =
    let same : d ≡ b = same_Some d b found in
    subst (λ (x : Block Location). 0 + sum_by alloc_bytes (drop 0 x.lines) ≤ sum_by (λ y. sum_by alloc_bytes y.lines) (d ∷ blocks)) same
    (at_most (sum_by alloc_bytes d.lines) (sum_by (λ y. sum_by alloc_bytes y.lines) blocks) (sum_by (λ y. sum_by alloc_bytes y.lines) (d ∷ blocks))
    (sum_by-cons (λ y. sum_by alloc_bytes y.lines) d blocks))
  where
    at_most : (x y z : ℕ) → z ≡ x + y → 0 + x ≤ z
    at_most x y z e = omega arith

begins_related : (c : Setting) → IsSetting c → AreArgs (map (λ d. d.class) c.code.params) c.given.args → Related c c.bases (begin located c.code c.given) (flat_begin c.code c.base c.shown)
begins_related c is args =
    record {
      block = refl;
      next = refl;
      spent = refl;
      follow = bound_follow c.names.entries c.bases c.code.params c.given.args c.shown.args unknown (λ q. None) is.shows.args args (λ q. none_follows c.names.entries c.bases None);
      held = record {
        memory = is.shows.memory;
        grown = same_bases c.bases;
        above = λ x le lt. let below : c.low < c.base = is.some_below in is.shows.clear x (omega arith) lt;
        reach = λ x away out. away;
        others = λ b e. refl;
        mine = λ b e. cc;
      };
      room = λ b first found. first_fits c.code.blocks b found;
    }

-- ---- the law

pub regular_is_kept : RegularIsKept
regular_is_kept f regular names low high base calls_below some_below end log i o args fine n logged p j known shown shows =
    let c : Setting = record { code = f; names = names; low = low; high = high; base = base; given = i; shown = j; bases = p } in
    let is : IsSetting c =
    record {
      regular = regular;
      calls_below = calls_below;
      some_below = some_below;
      grounded = record {
        known = known;
        memory = shows.memory;
        clear = λ x le lt. shows.clear x (omega arith) lt;
        above_zero = (omega arith);
        below_end = end;
      };
      names = shown;
      shows = shows;
    }
    in
    (n, plays_by (frame c) (Related c) (step located names.globals f i) (flat_step f names.addresses base j) o fine (steps_together c is) n p (begin located f i) (flat_begin f base j) log (begins_related c is args) logged)
