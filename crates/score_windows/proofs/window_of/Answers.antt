-- `score_windows::window_of` meets its contract: the first and the last token that are counted bound the window. Assumes nothing.
use mathlib.Core.Path.{◌≡◌, refl, sym, ap, ◌∙◌}
use Prim.Native.Nat.{ℕ, ◌<◌, ◌+◌}
use borrow.Author.Rules.{rules}
use lib.ListN.{length, get_or}
use Rattle.std.specs.Prelude.{Option, Some, None}
use Rattle.score_windows.specs.Windows.{Window, window_of}
use Rattle.score_windows.proofs.Windowing.{window-blank, window-first, window-end}
use Rattle.score_windows.proofs.window_of.Goals as goal

pub returns-clause-first : goal.returns-clause-first
returns-clause-first c = go c.position.result refl
  where
    go : (o : Option ℕ) → c.position.result ≡ o → c.unwrap_or-first.result ≡ (window_of c.args.hist.now (length c.args.hist.now)).first
    go None e =
        let z : (t : ℕ) → t < length c.args.hist.now → get_or c.args.hist.now t 0 ≡ 0 = search rules in
        let r : c.unwrap_or-first.result ≡ 0 = search rules in
        r ∙ sym (ap (λ (w : Window). w.first) (window-blank c.args.hist.now (length c.args.hist.now) z))
    go (Some i) e =
        let inside : i < length c.args.hist.now = search rules in
        let here : get_or c.args.hist.now i 0 ≡ 0 → ⊥ = search rules in
        let before : (t : ℕ) → t < i → get_or c.args.hist.now t 0 ≡ 0 = search rules in
        let r : c.unwrap_or-first.result ≡ i = search rules in
        r ∙ sym (window-first c.args.hist.now (length c.args.hist.now) i inside here before).0

pub returns-clause-end : goal.returns-clause-end
returns-clause-end c = go c.rposition.result refl
  where
    go : (o : Option ℕ) → c.rposition.result ≡ o → c.map_or-end.result ≡ (window_of c.args.hist.now (length c.args.hist.now)).end
    go None e =
        let z : (t : ℕ) → t < length c.args.hist.now → get_or c.args.hist.now t 0 ≡ 0 = search rules in
        let r : c.map_or-end.result ≡ 0 = search rules in
        r ∙ sym (ap (λ (w : Window). w.end) (window-blank c.args.hist.now (length c.args.hist.now) z))
    go (Some i) e =
        let inside : i < length c.args.hist.now = search rules in
        let here : get_or c.args.hist.now i 0 ≡ 0 → ⊥ = search rules in
        let after : (t : ℕ) → i < t → t < length c.args.hist.now → get_or c.args.hist.now t 0 ≡ 0 = search rules in
        let r : c.map_or-end.result ≡ i + 1 = search rules in
        r ∙ sym (window-end c.args.hist.now (length c.args.hist.now) i inside here after)
