pub mod EarlierLaws
