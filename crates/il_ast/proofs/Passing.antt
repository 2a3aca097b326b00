-- Passes compose: what keeps a function's code is the function's code.
use Rattle.std.proofs.Common.{List, ◌∙◌, subst}
use Rattle.il_ast.specs.Prelude.{Class, Func, KeepsCode, Coded, Keeps, IsCodeOf, classes_of, body_of}
use Rattle.il_ast.proofs.Simulated.{codes_compose, meaning_composes}

pub keeps_compose : (a b c : Coded) → Keeps a b → Keeps b c → Keeps a c
keeps_compose a b c h k =
    record {
      params = k.params ∙ h.params;
      result = k.result ∙ h.result;
      runs = λ globals.
          codes_compose a.params a.start (a.step globals) b.start (b.step globals) c.start (c.step globals) (h.runs globals)
          (subst (λ (cs : List Class). KeepsCode cs b.start (b.step globals) c.start (c.step globals)) h.params (k.runs globals));
    }

pub passes_stay : (f : Func) (a b : Coded) → IsCodeOf f a → Keeps a b → IsCodeOf f b
passes_stay f a b is k =
    record {
      params = k.params ∙ is.params;
      result = k.result ∙ is.result;
      runs = λ globals.
          meaning_composes (classes_of f.params) (body_of f globals) a.start (a.step globals) b.start (b.step globals) (is.runs globals)
          (subst (λ (cs : List Class). KeepsCode cs a.start (a.step globals) b.start (b.step globals)) is.params (k.runs globals));
    }
