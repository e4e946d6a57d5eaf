use Rattle.std.proofs.Common.{◌≡◌, ◌+◌, ◌-◌, ◌∙◌, take, drop, ap, refl, subst, arith, None, Some}
use Rattle.std.specs.Prelude.{count_by}
use Rattle.std.proofs.lemmas.List.{take_rest}
use Rattle.bk_token.specs.Bytes.{is_line_feed}
use Rattle.bk_token.specs.Reading.{Cuts}
use Rattle.bk_token.specs.declared.place.Place.{Place}
use Rattle.bk_token.proofs.PlaceLemmas.{place_behind, passed_next, token_next}
use Rattle.bk_token.proofs.place.next_piece.Goals as goal

pub returns-in-Some-clause-place : goal.returns-in-Some-clause-place
returns-in-Some-clause-place c =
    let src = c.args.src.now in
    let place = c.args.place.now in
    let piece = c.first_piece-piece.result in
    let behind : Place = record { at = place.at + piece.len; feeds = place.feeds + c.line_feeds.result } in
    let cut : Cuts (take place.at src) (drop place.at src) piece.len piece.kind = subst (λ l. Cuts (take place.at src) l piece.len piece.kind) (take_rest src place.at) c.first_piece-piece.ensures in
    let size : place.at + piece.len - place.at ≡ piece.len = omega arith in
    let counted : c.line_feeds.result ≡ count_by is_line_feed (take piece.len (drop place.at src)) = c.line_feeds.ensures ∙ ap (λ n. count_by is_line_feed (take n (drop place.at src))) size in
    place_behind src place behind piece.len _ piece.kind c.requires.place cut refl refl counted

pub returns-in-Some-clause-next : goal.returns-in-Some-clause-next
returns-in-Some-clause-next c ts tokens =
    let src = c.args.src.now in
    let place = c.args.place.now in
    let piece = c.first_piece-piece.result in
    let behind : Place = record { at = place.at + piece.len; feeds = place.feeds + c.line_feeds.result } in
    let cut : Cuts (take place.at src) (drop place.at src) piece.len piece.kind = subst (λ l. Cuts (take place.at src) l piece.len piece.kind) (take_rest src place.at) c.first_piece-piece.ensures in
    let kind_cut : Cuts (take place.at src) (drop place.at src) piece.len (Some c.in-Some.kind) = subst (λ k. Cuts (take place.at src) (drop place.at src) piece.len k) c.in-Some.is cut in
    token_next src place behind piece.len _ _ _ c.in-Some.kind ts c.requires.place kind_cut refl refl refl c.line_number-line.ensures tokens

pub returns-in-None-clause-place : goal.returns-in-None-clause-place
returns-in-None-clause-place c =
    let src = c.args.src.now in
    let place = c.args.place.now in
    let piece = c.first_piece-piece.result in
    let behind : Place = record { at = place.at + piece.len; feeds = place.feeds + c.line_feeds.result } in
    let cut : Cuts (take place.at src) (drop place.at src) piece.len piece.kind = subst (λ l. Cuts (take place.at src) l piece.len piece.kind) (take_rest src place.at) c.first_piece-piece.ensures in
    let size : place.at + piece.len - place.at ≡ piece.len = omega arith in
    let counted : c.line_feeds.result ≡ count_by is_line_feed (take piece.len (drop place.at src)) = c.line_feeds.ensures ∙ ap (λ n. count_by is_line_feed (take n (drop place.at src))) size in
    place_behind src place behind piece.len _ piece.kind c.requires.place cut refl refl counted

pub returns-in-None-clause-next : goal.returns-in-None-clause-next
returns-in-None-clause-next c ts tokens =
    let src = c.args.src.now in
    let place = c.args.place.now in
    let piece = c.first_piece-piece.result in
    let behind : Place = record { at = place.at + piece.len; feeds = place.feeds + c.line_feeds.result } in
    let cut : Cuts (take place.at src) (drop place.at src) piece.len piece.kind = subst (λ l. Cuts (take place.at src) l piece.len piece.kind) (take_rest src place.at) c.first_piece-piece.ensures in
    let none_cut : Cuts (take place.at src) (drop place.at src) piece.len None = subst (λ k. Cuts (take place.at src) (drop place.at src) piece.len k) c.in-None.is cut in
    passed_next src place behind piece.len ts c.requires.place none_cut refl tokens
