use mathlib.Core.List.{List}
use mathlib.Core.Path.{◌∙◌, sym, ap}
use Prim.Native.Nat.{ℕ}
use native.Mathlib.Omega.{arith}
use lib.ListN.{get_or, drop}
use Rattle.meaning.specs.Mmtp.{offset_of}
use Rattle.tlv.specs.Answers.{as_offset}
use Rattle.tlv.proofs.Laws.{unread_short, unread_offset, unread_past, placed, unplaced, placed_at, to_end}
use Rattle.tlv.proofs.mmtp_at.Goals as goal

pub returns-then-p-lt4 : goal.returns-then-p-lt4
returns-then-p-lt4 c = unread_short c.args.p.now c.if-p-lt4.true

pub returns-in_err-mmtp : goal.returns-in_err-mmtp
returns-in_err-mmtp c =
    let p = c.args.p.now in
    rw c.from_residual.ensures
    (unread_offset p (omega arith)
    (unplaced (offset_of (get_or p 1 0) (drop 4 p)) (sym c.in_err-mmtp.was ∙ c.offset_of.ensures ∙ ap (λ (z : List ℕ). as_offset (offset_of (get_or p 1 0) z)) (to_end p 4))))

pub returns-then-p-mmtp : goal.returns-then-p-mmtp
returns-then-p-mmtp c =
    let p = c.args.p.now in
    let m = c.in_ok-mmtp in
    unread_past p (omega arith) m.mmtp.at m.mmtp.rewritable
    (placed_at (offset_of (get_or p 1 0) (drop 4 p)) _ (sym m.was ∙ c.offset_of.ensures ∙ ap (λ (z : List ℕ). as_offset (offset_of (get_or p 1 0) z)) (to_end p 4)))
    c.if-p-mmtp.true

pub returns : goal.returns
returns c =
    let p = c.args.p.now in
    let m = c.in_ok-mmtp in
    placed p (omega arith) m.mmtp.at m.mmtp.rewritable
    (placed_at (offset_of (get_or p 1 0) (drop 4 p)) _ (sym m.was ∙ c.offset_of.ensures ∙ ap (λ (z : List ℕ). as_offset (offset_of (get_or p 1 0) z)) (to_end p 4)))
    c.if-p-mmtp.false
