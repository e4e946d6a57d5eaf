mod DayLemmas
mod FigureLemmas
mod TextLemmas
